-- What a call on a record does to its device, whole: its answer, the state before and the state after.
use Rattle.std.specs.Prelude.{◌≡◌, ◌≤◌, ◌+◌, ℕ, true, List, length, set, Some, Result, OnOk, OnErr, IsSomeAnd}
use Rattle.node_device.specs.File.{Torn, bytes_of}
use Rattle.node_device.specs.DeviceState.{DeviceState, ChangesOnly, ReadsAlike, used_of}
use Rattle.node_device.specs.Answers.{HasDeviceCause, IsSpared, WriteAnswers, SyncAnswers}
use Rattle.node_device.specs.declared.device.DevError.{DevError}
use Rattle.gated_record.specs.Record.{HasBody, HasShutGates, HasPlace, BodyAnswers}

-- the body of a record is written; where its gates are shut, they stay so
pub record WritesBody {T : Type 0} (name body : List ℕ) (result : Result T DevError) (old new : DeviceState) : Type 0 where
  pub answer : BodyAnswers old name (length body) result
  pub whole : old.tells ≡ true → OnOk result (HasBody (new.file name).now body)
  pub len : OnOk result (IsSomeAnd (new.file name).len (λ len. 16 + length body ≤ len))
  pub shut : HasShutGates (old.file name) → HasShutGates (new.file name)
  pub torn : Torn 8 (8 + length body) (old.file name) (new.file name)
  pub refused : OnErr result (ReadsAlike old new)
  pub spared : IsSpared old new result
  pub only : ChangesOnly name old new
  pub cause : HasDeviceCause old new result

-- one byte is written at a gate; a file that has its place keeps its length, and then that takes no memory and no room
pub record TurnsGate {T : Type 0} (name : List ℕ) (gate byte : ℕ) (result : Result T DevError) (old new : DeviceState) : Type 0 where
  pub answer : WriteAnswers (old.file name) (used_of old) old.capacity gate 1 result
  pub failed_alone : HasPlace (old.file name) gate → SyncAnswers result
  pub len : HasPlace (old.file name) gate → (new.file name).len ≡ (old.file name).len
  pub now : HasPlace (old.file name) gate → old.tells ≡ true → OnOk result ((new.file name).now ≡ Some (set (bytes_of (old.file name).now) gate byte))
  pub torn : Torn gate 1 (old.file name) (new.file name)
  pub refused : OnErr result (ReadsAlike old new)
  pub spared : IsSpared old new result
  pub only : ChangesOnly name old new
  pub cause : HasDeviceCause old new result
