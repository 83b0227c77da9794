-- What single calls on a bay do to one device, as the moves of a site use them.
use Rattle.std.specs.Prelude.{◌≡◌, ◌≢◌, ◌≤◌, ◌<◌, ◌↔◌, ℕ, Bool, true, false, List, length, Option, Some, set, codes}
use Rattle.scr_base.specs.Stages.{left}
use Rattle.scr_base.specs.declared.change.Change.{Change}
use Rattle.scr_base.specs.declared.shape.DataId.{DataId}
use Rattle.member_store.specs.Calls.{RemovesAtMost, HasNoFile, IsDropStage}
use Rattle.node_device.specs.File.{written, bytes_of, IsAtRest, IsPartlySynced, Torn}
use Rattle.node_device.specs.DeviceState.{DeviceState, ChangesOnly, ReadsAlike}
use Rattle.gated_record.specs.Record.{HasBody, HasShutGates, open_gate_byte}
use Rattle.gated_record.specs.Frames.{ChangesPair}
use Rattle.gated_record.specs.PairStages.{IsPairStage, PairLeaves, IsOldOrWanted}
use Rattle.gated_record.specs.declared.pair.PairValue.{PairValue}

-- nothing
abbrev pub Same : DeviceState → DeviceState → Type 0
Same old new = new ≡ old

-- bytes were written at a place of a file
pub record Written (name : List ℕ) (at : ℕ) (bytes : List ℕ) (old new : DeviceState) : Type 0 where
  pub now : old.tells ≡ true → (new.file name).now ≡ Some (written (bytes_of (old.file name).now) at bytes)
  pub only : ChangesOnly name old new

-- each device tells its contents
abbrev pub Tells : (ℕ → DeviceState) → Type 0
Tells states = (p : ℕ) → p ≤ 32 → (states p).tells ≡ true

-- each device that told its contents goes on telling them, and no other begins to
abbrev pub TellsAlike : (ℕ → DeviceState) → (ℕ → DeviceState) → Type 0
TellsAlike old new = (p : ℕ) → (new p).tells ≡ (old p).tells

-- all of it was made stable
pub record Synced (old new : DeviceState) : Type 0 where
  pub alike : ReadsAlike old new
  pub at_rest : (q : List ℕ) → IsAtRest (new.file q)
  pub partly : (q : List ℕ) → IsPartlySynced (old.file q) (new.file q)

-- a record's body was written; where its gates were shut, they are
pub record Recorded (name body : List ℕ) (old new : DeviceState) : Type 0 where
  pub body_is : old.tells ≡ true → HasBody (new.file name).now body
  pub shut : HasShutGates (old.file name) → HasShutGates (new.file name)
  pub only : ChangesOnly name old new

-- a gate was opened, of a record that has its place; a stop leaves the rest of it as before
pub record Turned (name : List ℕ) (gate : ℕ) (old new : DeviceState) : Type 0 where
  pub now : old.tells ≡ true → gate < length (bytes_of (old.file name).now) → (new.file name).now ≡ Some (set (bytes_of (old.file name).now) gate open_gate_byte)
  pub torn : Torn gate 1 (old.file name) (new.file name)
  pub only : ChangesOnly name old new

-- a call on one file was refused: what reads give is the same, and no other file is less at rest
pub record Refused (name : List ℕ) (old new : DeviceState) : Type 0 where
  pub alike : ReadsAlike old new
  pub others : (q : List ℕ) → q ≢ name → IsAtRest (old.file q) → IsAtRest (new.file q)

-- the write of a record's body was refused; where its gates were shut, they are
pub record Unrecorded (name : List ℕ) (old new : DeviceState) : Type 0 where
  pub refused : Refused name old new
  pub shut : HasShutGates (old.file name) → HasShutGates (new.file name)
  pub only : ChangesOnly name old new

-- the opening of a gate was refused; a stop leaves the rest of the record as before
pub record Unturned (name : List ℕ) (gate : ℕ) (old new : DeviceState) : Type 0 where
  pub refused : Refused name old new
  pub torn : Torn gate 1 (old.file name) (new.file name)
  pub only : ChangesOnly name old new

-- a step of the run's number was refused: whatever a stop leaves, the old number stands or the wanted one
pub record Unnumbered (want : PairValue) (before : Option (List Change)) (old new : DeviceState) : Type 0 where
  pub leaves : (value : Option PairValue) → IsPairStage (codes "run") value want old before → new.tells ≡ true → PairLeaves (codes "run") new (IsOldOrWanted value want)
  pub only : ChangesPair (codes "run") old new

-- what reads give is the same, no file is less at rest, and a stop leaves no more
pub record KeptAlike (old new : DeviceState) : Type 0 where
  pub alike : ReadsAlike old new
  pub at_rest : (q : List ℕ) → IsAtRest (old.file q) → IsAtRest (new.file q)
  pub partly : (q : List ℕ) → IsPartlySynced (old.file q) (new.file q)

-- one file of a member was removed, at most; where the removal knows the files that are left, they are fewer, and none at its end
pub record FileDropped (which : DataId) (node : ℕ) (over : Bool) (before after : Option (List Change)) (old new : DeviceState) : Type 0 where
  pub at_most : RemovesAtMost which node old new
  pub none_left : IsDropStage which node old before → (over ≡ true) ↔ HasNoFile which node new
  pub goes : IsDropStage which node old before → IsDropStage which node new after
  pub fewer : over ≡ false → left after < left before
