-- An entry is taken out of the index, one change a call.
use Rattle.std.specs.Prelude.{◌≡◌, ◌≢◌, ◌⊎◌, ◌<◌, ℕ, Bool, true, false, List, [], ◌∷◌, ◌++◌, map, All, Option, None, Some, IsSome, Result, Ok, Err, OnOk, OnErr, IfOk, IsOk}
use Rattle.scr_base.specs.declared.shape.DataId.{DataId}
use Rattle.scr_base.specs.declared.change.Change.{Change}
use Rattle.scr_base.specs.declared.change.Change.TheVariants.{Close, Sync, Remove}
use Rattle.scr_base.specs.Stages.{left, is_over}
use Rattle.node_device.specs.File.{File, MayLeave, IsRemoved}
use Rattle.node_device.specs.DeviceState.{DeviceState, IsDeviceName, IsUnchanged, ReadsAlike, ChangesOnly, used_of}
use Rattle.node_device.specs.Answers.{HasDeviceCause, Passes}
use Rattle.node_device.specs.Calls.{Syncs}
use Rattle.node_device.specs.declared.device.DevError.{DevError}
use Rattle.node_device.specs.declared.device.DevError.TheVariants as device
use Rattle.gated_record.specs.Record.{HasPlace, IsOpen}
use Rattle.gated_record.specs.Calls.{TurnsGate}
use Rattle.gated_record.specs.Changes.{IsGate}
use Rattle.gated_record.specs.Frames.{IsNoWorse}
use Rattle.gate_outcomes.specs.Leaves.{Leaves}
use Rattle.gate_outcomes.specs.Gates.{StaysShut}
use Rattle.prefix_store.specs.Names.{IsUnder}
use Rattle.prefix_store.specs.Calls.{AreFilesUnder, IsClear}
use Rattle.prefix_index.specs.Names.{entry_name}
use Rattle.prefix_index.specs.Entries.{HasEntry, IsBefore}
use Rattle.prefix_index.specs.Answers.{HasIndexCause, ReadingAnswers}
use Rattle.prefix_index.specs.declared.entry.Entry.{Entry}
use Rattle.prefix_index.specs.declared.error.IndexError.{IndexError}
use Rattle.prefix_index.specs.declared.error.IndexError.TheVariants.{NoEntry, NameTaken, Device, Full, Memory}

-- how far a drop has come
pub data Drop : Type 0 where
  -- the gate is to be closed
  Closing : Drop
  -- it is closed, and that isn't yet stable
  Closed : Drop
  -- that is stable; the files and then the record are to be removed
  Removing : Drop
  -- nothing is left to do
  Over : Drop

-- the files are removed, and then the record
abbrev pub removals : List (List ℕ) → List ℕ → List Change
removals names own = map Remove names ++ Remove own ∷ []

-- the changes that are left
abbrev pub drop_changes : List ℕ → List (List ℕ) → Drop → List Change
drop_changes own names Closing = Close own 0 ∷ Sync ∷ removals names own
drop_changes own names Closed = Sync ∷ removals names own
drop_changes own names Removing = removals names own
drop_changes own names Over = []

-- what is known of the record, on a device that tells its contents or doesn't
abbrev pub DropHolds : Drop → Bool → File → List (List ℕ) → Type 0
DropHolds Closing tells f names = HasPlace f 0 × (tells ≡ true → IsOpen f.now 0)
DropHolds Closed tells f names = IsSome f.len × (tells ≡ true → ¬ IsOpen f.now 0)
DropHolds Removing tells f names = IsSome f.len × (tells ≡ true → StaysShut f 0)
DropHolds Over tells f names = (names ≡ []) × (f.len ≡ None) × (tells ≡ true → StaysShut f 0)

-- The drop of the entry of this identity, with this folder, has come so far: these changes are left.
pub record IsDropping (which : DataId) (folder : List ℕ) (d : DeviceState) (changes : List Change) : Type 0 where
  pub drop : Drop
  pub names : List (List ℕ)
  pub changes_are : changes ≡ drop_changes (entry_name which) names drop
  pub files : AreFilesUnder folder d names
  pub holds : DropHolds drop d.tells (d.file (entry_name which)) names

-- this is the first entry of the id, by its run
pub record IsFirst (d : DeviceState) (e : Entry) : Type 0 where
  pub there : HasEntry d e
  pub first : (other : Entry) → HasEntry d other → other.desc.which.id ≡ e.desc.which.id → ¬ IsBefore other e

-- a change that a drop may make
abbrev pub IsDropChange : Change → Type 0
IsDropChange (Close name gate) = IsGate name gate
IsDropChange Sync = Unit {0}
IsDropChange (Remove name) = IsDeviceName name
IsDropChange _ = ⊥

-- A stage of a drop, whatever the device holds: it has made no change, or such changes are left.
abbrev pub IsDropStageOf : Option (List Change) → Type 0
IsDropStageOf None = Unit {0}
IsDropStageOf (Some changes) = All IsDropChange changes

-- The folder's files are as they were, or no stop leaves the gate `indexed` open.
abbrev pub IsSafe : DataId → List ℕ → DeviceState → DeviceState → Type 0
IsSafe which folder old new = ((q : List ℕ) → IsUnder folder q → IsNoWorse (old.file q) (new.file q)) ⊎ StaysShut (new.file (entry_name which)) 0

-- no stop leaves it an entry, and neither its record nor a file under its folder is left
pub record IsOut (which : DataId) (folder : List ℕ) (d : DeviceState) : Type 0 where
  pub record_gone : (d.file (entry_name which)).len ≡ None
  pub shut : d.tells ≡ true → StaysShut (d.file (entry_name which)) 0
  pub clear : IsClear folder d

-- a stage that knows the changes that are left of the drop of this entry
abbrev pub IsDropStage : DataId → List ℕ → DeviceState → Option (List Change) → Type 0
IsDropStage which folder d None = ⊥
IsDropStage which folder d (Some changes) = IsDropping which folder d changes

-- Where a stop leaves the gate `indexed` open, it leaves the record as it might have been left before.
abbrev pub OpensNoMore : File → File → Type 0
OpensNoMore f g = Leaves g (λ o. IsOpen o 0 → MayLeave f o)

-- What a step of the drop of this entry does.
pub record GoesDropping (which : DataId) (folder : List ℕ) (result : Result Bool IndexError) (after : Option (List Change)) (old new : DeviceState) : Type 0 where
  pub exact : ReadingAnswers result
  pub stage : OnOk result (IsDropStage which folder new after)
  pub safe : old.tells ≡ true → IsSafe which folder old new
  pub entry : old.tells ≡ true → OpensNoMore (old.file (entry_name which)) (new.file (entry_name which))
  pub out : IfOk result (λ over. over ≡ true → IsOut which folder new)
  pub others : (q : List ℕ) → q ≢ entry_name which → (IsUnder folder q → ⊥) → IsNoWorse (old.file q) (new.file q)

-- why a drop doesn't begin
abbrev pub IsUnbegun : Result Bool IndexError → Type 0
IsUnbegun (Err NoEntry) = Unit {0}
IsUnbegun (Err (Device count)) = Unit {0}
IsUnbegun (Err Memory) = Unit {0}
IsUnbegun _ = ⊥

-- What a first step does: it is refused before any change, or it is a step of the drop of the first entry of the id.
abbrev pub BeginsDropping : ℕ → Result Bool IndexError → Option (List Change) → DeviceState → DeviceState → Type 0
BeginsDropping id result after old new = (IsUnbegun result × IsUnchanged old new) ⊎ ((e : Entry) × IsFirst old e × (e.desc.which.id ≡ id) × GoesDropping e.desc.which e.desc.name result after old new)

-- no entry has the id
abbrev pub NoneOfId : DeviceState → ℕ → Type 0
NoneOfId d id = (e : Entry) → HasEntry d e → e.desc.which.id ≢ id

-- when each answer comes of a step of a drop, whatever the device holds
abbrev pub DropAnswers : ℕ → Option (List Change) → DeviceState → DeviceState → Result Bool IndexError → Type 0
DropAnswers id before old new (Ok _) = Unit {0}
DropAnswers id before old new (Err NoEntry) = (before ≡ None) × (old.tells ≡ true → NoneOfId old id)
DropAnswers id before old new (Err (NameTaken which)) = ⊥
DropAnswers id before old new (Err (Device count)) = Unit {0}
DropAnswers id before old new (Err (Full used capacity)) = (name : List ℕ) × (gate : ℕ) × Passes (old.file name) (used_of old) old.capacity gate 1 × (used ≡ used_of new) × (capacity ≡ new.capacity)
DropAnswers id before old new (Err Memory) = Unit {0}

-- One call of a drop, whole: its answer, the stage before and after, and the state before and after.
pub record Drops (id : ℕ) (result : Result Bool IndexError) (before after : Option (List Change)) (old new : DeviceState) : Type 0 where
  pub answer : DropAnswers id before old new result
  pub begins : before ≡ None → old.tells ≡ true → BeginsDropping id result after old new
  pub goes : (which : DataId) (folder : List ℕ) (changes : List Change) → before ≡ Some changes → IsDropping which folder old changes → GoesDropping which folder result after old new
  pub again : (which : DataId) (folder : List ℕ) (changes : List Change) → before ≡ Some changes → IsDropping which folder old changes → OnErr result (IsDropping which folder new changes)
  pub over : IfOk result (λ over. over ≡ is_over after)
  pub fewer : IfOk result (λ over. over ≡ false → left after < left before)
  pub stage : IsDropStageOf after
  pub refused : OnErr result (after ≡ before)
  pub alike : OnErr result (ReadsAlike old new)
  pub tells : new.tells ≡ old.tells
  pub cause : HasIndexCause old new result

-- ---- the parts of a call

-- the file is removed, or it wasn't there
pub record RemovesAny {T : Type 0} (name : List ℕ) (result : Result T DevError) (old new : DeviceState) : Type 0 where
  pub removed : OnOk result (IsRemoved (old.file name) (new.file name) ⊎ (((old.file name).len ≡ None) × IsUnchanged old new))
  pub answer : OnErr result ((result ≡ Err device.Failed) ⊎ (result ≡ Err device.Memory))
  pub refused : OnErr result (IsUnchanged old new)
  pub only : ChangesOnly name old new
  pub cause : HasDeviceCause old new result

-- a change of a drop is made, or refused
abbrev pub MakesDrop : {T : Type 0} → Change → Result T DevError → DeviceState → DeviceState → Type 0
MakesDrop (Close name gate) result old new = TurnsGate name gate 0 result old new
MakesDrop Sync result old new = Syncs result old new
MakesDrop (Remove name) result old new = RemovesAny name result old new
MakesDrop _ result old new = ⊥

abbrev pub MayMakeNext : Option (List Change) → Type 0
MayMakeNext None = Unit {0}
MayMakeNext (Some []) = Unit {0}
MayMakeNext (Some (change ∷ later)) = IsDropChange change

-- an answer without its value
abbrev pub bare : {T : Type 0} → Result T DevError → Result (Unit {0}) DevError
bare (Ok x) = Ok (tt {0})
bare (Err fault) = Err fault

-- the change that comes next is made, or refused; where there is none, nothing is changed
abbrev pub MakesNext : {T : Type 0} → Option (List Change) → Result T DevError → DeviceState → DeviceState → Type 0
MakesNext None result old new = IsUnchanged old new × IsOk result × HasDeviceCause old new result
MakesNext (Some []) result old new = IsUnchanged old new × IsOk result × HasDeviceCause old new result
MakesNext (Some (change ∷ later)) result old new = MakesDrop change (bare result) old new
