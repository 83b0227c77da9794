-- What a call on a folder of the prefix does to its device, whole: its answer, the state before and the state after.
use Rattle.std.specs.Prelude.{◌≡◌, ◌≢◌, ◌⊎◌, ◌<◌, ◌↔◌, ℕ, Bool, true, false, List, All, AllPairs, Contains, map, Option, None, Some, IsSome, Result, Ok, Err, OnOk, OnErr, IfOk}
use Rattle.scr_base.specs.declared.change.Change.{Change}
use Rattle.scr_base.specs.declared.change.Change.TheVariants.{Remove}
use Rattle.scr_base.specs.Stages.{left, next_of, is_over}
use Rattle.node_device.specs.File.{IsRemoved}
use Rattle.node_device.specs.DeviceState.{DeviceState, ChangesOnly, IsUnchanged}
use Rattle.node_device.specs.Answers.{HasDeviceCause, NamesAnswers}
use Rattle.node_device.specs.Calls.{Reads, Writes}
use Rattle.node_device.specs.declared.device.DevError.{DevError}
use Rattle.node_device.specs.declared.device.DevError.TheVariants.{Failed, NoFile, Memory}
use Rattle.prefix_store.specs.Names.{flushed_name, IsUnder, IsNameUnder}

-- bytes are written at a place of a flushed file
abbrev pub WritesPiece : {T : Type 0} → List ℕ → ℕ → List ℕ → ℕ → List ℕ → Result T DevError → DeviceState → DeviceState → Type 0
WritesPiece name rank file = Writes (flushed_name name rank file)

-- `n` bytes of a flushed file are read from a place on, into a buffer that holds `into` afterwards
abbrev pub ReadsPiece : {T : Type 0} → List ℕ → ℕ → List ℕ → ℕ → ℕ → List ℕ → Result T DevError → DeviceState → DeviceState → Type 0
ReadsPiece name rank file = Reads (flushed_name name rank file)

-- the files under the folder that are there
abbrev pub IsFileUnder : List ℕ → DeviceState → List ℕ → Type 0
IsFileUnder folder d name = IsNameUnder folder name × IsSome (d.file name).len

-- no file is under the folder
abbrev pub IsClear : List ℕ → DeviceState → Type 0
IsClear folder d = (name : List ℕ) → IsUnder folder name → (d.file name).len ≡ None

-- These are the files under the folder, each once.
pub record AreFilesUnder (folder : List ℕ) (d : DeviceState) (names : List (List ℕ)) : Type 0 where
  pub there : All (IsFileUnder folder d) names
  pub every : (name : List ℕ) → IsUnder folder name → IsSome (d.file name).len → Contains names name
  pub distinct : AllPairs (λ name other. name ≢ other) names

-- A stage of clearing this folder, whatever the device holds: it has made no change, or files of its names are left.
abbrev pub IsClearStageOf : List ℕ → Option (List Change) → Type 0
IsClearStageOf folder None = Unit {0}
IsClearStageOf folder (Some changes) = (names : List (List ℕ)) × (changes ≡ map Remove names) × All (IsNameUnder folder) names

-- A stage of clearing this folder on this device: it has made no change, or knows the files that are left.
abbrev pub IsClearStage : List ℕ → DeviceState → Option (List Change) → Type 0
IsClearStage folder d None = Unit {0}
IsClearStage folder d (Some changes) = (names : List (List ℕ)) × (changes ≡ map Remove names) × AreFilesUnder folder d names

-- this file under the folder is removed, and no other file is changed
pub record RemovesUnder (folder name : List ℕ) (old new : DeviceState) : Type 0 where
  pub there : IsFileUnder folder old name
  pub removed : IsRemoved (old.file name) (new.file name)
  pub only : ChangesOnly name old new

-- one file under the folder is removed; where none is there, nothing is changed
abbrev pub ClearsOne : List ℕ → DeviceState → DeviceState → Type 0
ClearsOne folder old new = ((name : List ℕ) × RemovesUnder folder name old new) ⊎ (IsClear folder old × IsUnchanged old new)

-- one file under the folder is removed, or nothing is changed
abbrev pub ClearsAtMost : List ℕ → DeviceState → DeviceState → Type 0
ClearsAtMost folder old new = ((name : List ℕ) × RemovesUnder folder name old new) ⊎ IsUnchanged old new

-- when each answer comes of a step of a clearing: the file that comes next is there, or it isn't
abbrev pub ClearAnswers : {T : Type 0} → Option (List Change) → DeviceState → Result T DevError → Type 0
ClearAnswers stage d (Ok _) = (name : List ℕ) → next_of stage ≡ Some (Remove name) → IsSome (d.file name).len
ClearAnswers stage d (Err Failed) = Unit {0}
ClearAnswers stage d (Err NoFile) = (name : List ℕ) × (next_of stage ≡ Some (Remove name)) × ((d.file name).len ≡ None)
ClearAnswers stage d (Err Memory) = Unit {0}
ClearAnswers stage d (Err _) = ⊥

-- One file under the folder is removed, and no other file is changed; it is over exactly where none is left.
pub record Clears (folder : List ℕ) (result : Result Bool DevError) (before after : Option (List Change)) (old new : DeviceState) : Type 0 where
  pub answer : ClearAnswers before old result
  pub exact : IsClearStage folder old before → NamesAnswers result
  pub over : IfOk result (λ over. over ≡ is_over after)
  pub none_left : IsClearStage folder old before → IfOk result (λ over. (over ≡ true) ↔ IsClear folder new)
  pub at_most : OnOk result (ClearsAtMost folder old new)
  pub removed : IsClearStage folder old before → OnOk result (ClearsOne folder old new)
  pub fewer : IfOk result (λ over. over ≡ false → left after < left before)
  pub stage : IsClearStageOf folder after
  pub goes : IsClearStage folder old before → IsClearStage folder new after
  pub refused : OnErr result ((after ≡ before) × IsUnchanged old new)
  pub cause : HasDeviceCause old new result
