-- The mark is stored: the payload of the pair `cur`, one change a call.
use Rattle.std.specs.Prelude.{◌≡◌, ◌⊎◌, ◌<◌, ℕ, Bool, true, false, List, codes, slice_get, Option, None, Some, Result, Ok, Err, IsErr}
use Rattle.scr_base.specs.declared.shape.DataId.{DataId}
use Rattle.scr_base.specs.declared.change.Change.{Change}
use Rattle.node_device.specs.DeviceState.{DeviceState, IsUnchanged}
use Rattle.node_device.specs.declared.device.DevError.{DevError}
use Rattle.gated_record.specs.PairNext.{StepsNext}
use Rattle.prefix_index.specs.Entries.{HasEntry, IsBefore}
use Rattle.prefix_index.specs.Marks.{mark_payload, IsSmall}
use Rattle.prefix_index.specs.Answers.{HasIndexCause, index_result}
use Rattle.prefix_index.specs.declared.entry.Entry.{Entry}
use Rattle.prefix_index.specs.declared.error.IndexError.{IndexError}
use Rattle.prefix_index.specs.declared.error.IndexError.TheVariants.{NoEntry, NameTaken, Device, Full, Memory}

-- this is the identity of the first entry of the id, by its run, that isn't failed
pub record IsFlushedAs (d : DeviceState) (id : ℕ) (which : DataId) : Type 0 where
  pub entry : Entry
  pub there : HasEntry d entry
  pub is : entry.desc.which ≡ which
  pub has : which.id ≡ id
  pub flushed : entry.failed ≡ false
  pub first : (other : Entry) → HasEntry d other → other.desc.which.id ≡ id → other.failed ≡ false → ¬ IsBefore other entry

-- no entry has the id, or each one that has it is failed
abbrev pub NoneFlushed : DeviceState → ℕ → Type 0
NoneFlushed d id = (e : Entry) → HasEntry d e → e.desc.which.id ≡ id → e.failed ≡ true

-- none, or the first one
abbrev pub FindsFlushed : ℕ → DeviceState → Option DataId → Type 0
FindsFlushed id d None = NoneFlushed d id
FindsFlushed id d (Some which) = IsFlushedAs d id which

-- each of these entries that has the id is failed
abbrev pub NoneIsFlushed : List Entry → ℕ → Type 0
NoneIsFlushed entries id = (k : ℕ) (e : Entry) → slice_get entries k ≡ Some e → e.desc.which.id ≡ id → e.failed ≡ true

-- the first of these entries that has the id and isn't failed is of this identity
pub record FirstIsFlushed (entries : List Entry) (id : ℕ) (which : DataId) : Type 0 where
  pub place : ℕ
  pub entry : Entry
  pub at : slice_get entries place ≡ Some entry
  pub is : entry.desc.which ≡ which
  pub has : which.id ≡ id
  pub flushed : entry.failed ≡ false
  pub before : (k : ℕ) (other : Entry) → k < place → slice_get entries k ≡ Some other → other.desc.which.id ≡ id → other.failed ≡ true

-- a step of the pair `cur` towards this mark, as the index tells it: `StepsNext` says what each step leaves
pub record StepsMark (which : DataId) (result : Result Bool IndexError) (before after : Option (List Change)) (old new : DeviceState) : Type 0 where
  pub small : IsSmall which
  pub told : Result Bool DevError
  pub is : result ≡ index_result new told
  pub steps : StepsNext (codes "cur") (mark_payload which) told before after old new

-- why no mark is sought
abbrev pub UnmarkedAnswers : ℕ → DeviceState → Result Bool IndexError → Type 0
UnmarkedAnswers id d (Err NoEntry) = d.tells ≡ true → NoneFlushed d id
UnmarkedAnswers id d (Err (Device count)) = Unit {0}
UnmarkedAnswers id d (Err Memory) = Unit {0}
UnmarkedAnswers id d _ = ⊥

-- it is refused before any change
pub record Unmarked (id : ℕ) (result : Result Bool IndexError) (before after : Option (List Change)) (old new : DeviceState) : Type 0 where
  pub answer : UnmarkedAnswers id old result
  pub stage : after ≡ before
  pub same : IsUnchanged old new
  pub cause : HasIndexCause old new result

-- a step towards the mark of the first entry of the id that isn't failed
pub record StepsEntry (id : ℕ) (result : Result Bool IndexError) (before after : Option (List Change)) (old new : DeviceState) : Type 0 where
  pub which : DataId
  pub flushed : old.tells ≡ true → IsFlushedAs old id which
  pub step : StepsMark which result before after old new
  pub cause : HasIndexCause old new result

-- One call of storing the mark, whole: its answer, the stage before and after, and the state before and after.
abbrev pub MarksEntry : ℕ → Result Bool IndexError → Option (List Change) → Option (List Change) → DeviceState → DeviceState → Type 0
MarksEntry id result before after old new = StepsEntry id result before after old new ⊎ Unmarked id result before after old new
