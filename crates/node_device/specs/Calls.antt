-- What one call does to one device, whole: its answer, the state before and the state after.
use Rattle.std.specs.Prelude.{◌≡◌, ℕ, List, [], length, take, drop, true, Some, Result, OnOk, OnErr, IfOk, Vec}
use Rattle.std.specs.declared.alloc.Global.{Global}
use Rattle.node_device.specs.declared.device.DevError.{DevError}
use Rattle.node_device.specs.File.{IsAtRest, Torn, IsRemoved, IsPartlySynced, IsEmpty, MayLeave, written, grown, bytes_of}
use Rattle.node_device.specs.DeviceState.{DeviceState, IsUnchanged, ChangesOnly, ReadsAlike, TellsOn, used_of}
use Rattle.node_device.specs.Answers.{HasDeviceCause, IsSpared, SizeAnswers, ReadAnswers, WriteAnswers, SyncAnswers, RemoveAnswers, NamesAnswers}

-- the length of a file is asked
pub record Sizes (name : List ℕ) (result : Result ℕ DevError) (old new : DeviceState) : Type 0 where
  pub answer : SizeAnswers (old.file name) result
  pub same : IsUnchanged old new
  pub cause : HasDeviceCause old new result

-- `n` bytes are read from a place on, into a buffer that holds `into` afterwards
pub record Reads {T : Type 0} (name : List ℕ) (at n : ℕ) (into : List ℕ) (result : Result T DevError) (old new : DeviceState) : Type 0 where
  pub answer : ReadAnswers (old.file name) at n result
  pub bytes : old.tells ≡ true → OnOk result (into ≡ take n (drop at (bytes_of (old.file name).now)))
  pub same : IsUnchanged old new
  pub cause : HasDeviceCause old new result

-- bytes are written at a place
pub record Writes {T : Type 0} (name : List ℕ) (at : ℕ) (bytes : List ℕ) (result : Result T DevError) (old new : DeviceState) : Type 0 where
  pub answer : WriteAnswers (old.file name) (used_of old) old.capacity at (length bytes) result
  pub len : OnOk result ((new.file name).len ≡ Some (grown (old.file name).len at (length bytes)))
  pub now : old.tells ≡ true → OnOk result ((new.file name).now ≡ Some (written (bytes_of (old.file name).now) at bytes))
  pub torn : Torn at (length bytes) (old.file name) (new.file name)
  pub refused : OnErr result (ReadsAlike old new)
  pub spared : IsSpared old new result
  pub only : ChangesOnly name old new
  pub cause : HasDeviceCause old new result

-- all that a read gives is made stable
pub record Syncs {T : Type 0} (result : Result T DevError) (old new : DeviceState) : Type 0 where
  pub answer : SyncAnswers result
  pub alike : ReadsAlike old new
  pub at_rest : OnOk result ((q : List ℕ) → IsAtRest (new.file q))
  pub partly : (q : List ℕ) → IsPartlySynced (old.file q) (new.file q)
  pub cause : HasDeviceCause old new result

-- a file is removed
pub record Removes {T : Type 0} (name : List ℕ) (result : Result T DevError) (old new : DeviceState) : Type 0 where
  pub answer : RemoveAnswers (old.file name) result
  pub removed : OnOk result (IsRemoved (old.file name) (new.file name))
  pub refused : OnErr result (IsUnchanged old new)
  pub only : ChangesOnly name old new
  pub cause : HasDeviceCause old new result

-- the names are listed
pub record Lists (result : Result (Vec (List ℕ) Global) DevError) (old new : DeviceState) : Type 0 where
  pub answer : NamesAnswers result
  pub names : IfOk result (λ names. names.items ≡ old.names)
  pub same : IsUnchanged old new
  pub cause : HasDeviceCause old new result

-- a stop: it leaves what it may leave, and all of that is stable
pub record Crashes (old new : DeviceState) : Type 0 where
  pub tells : TellsOn old new
  pub outcome : new.tells ≡ true → (q : List ℕ) → MayLeave (old.file q) (new.file q).now
  pub at_rest : (q : List ℕ) → IsAtRest (new.file q)

-- a loss of everything
pub record Wipes (old new : DeviceState) : Type 0 where
  pub tells : TellsOn old new
  pub names : new.names ≡ []
  pub empty : (q : List ℕ) → IsEmpty (new.file q)
