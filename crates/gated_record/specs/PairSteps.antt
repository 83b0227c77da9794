-- What one step of a pair does: the changes that were found, and what is made of one of them.
use Rattle.std.specs.Prelude.{◌≡◌, ◌≢◌, ◌⊎◌, ◌<◌, ◌≤◌, ◌+◌, ◌-◌, ℕ, Bool, true, false, List, [], ◌∷◌, ◌++◌, length, take, unwrap_or, Option, None, Some, Result, Ok, Err, OnOk, OnErr, IfOk, IsOk}
use Rattle.scr_base.specs.declared.change.Change.{Change}
use Rattle.scr_base.specs.declared.change.Change.TheVariants.{Open, Close, Write, Sync}
use Rattle.scr_base.specs.Stages.{left, next_of, passed, is_over}
use Rattle.node_device.specs.File.{IsAtRest, bytes_of}
use Rattle.node_device.specs.DeviceState.{DeviceState, IsUnchanged, ReadsAlike, used_of}
use Rattle.node_device.specs.Answers.{HasDeviceCause, IsSpared, Passes}
use Rattle.node_device.specs.declared.device.DevError.{DevError}
use Rattle.node_device.specs.declared.device.DevError.TheVariants.{Failed, Full, Memory}
use Rattle.gated_record.specs.Record.{is_open}
use Rattle.gated_record.specs.Changes.{MayMake, Makes}
use Rattle.gated_record.specs.Frames.{ChangesPair, KeepsLengths}
use Rattle.gated_record.specs.Pair.{value_in, copy_name, pair_body, copy_of}
use Rattle.gated_record.specs.PairStages.{PairLeaves, IsOldOrWanted, IsPairStage, IsCopyName, IsStageOf, HasCome, HasGate, IsToWrite, closings, ending, open_from}
use Rattle.gated_record.specs.declared.pair.PairValue.{PairValue}

-- the changes that close the open gates of a file, as these bytes of its front tell them
pub record Closes (name : List ℕ) (d : DeviceState) (changes : List Change) : Type 0 where
  pub front : List ℕ
  pub changes_are : changes ≡ closings name (open_from 0 front)
  pub few : length front ≤ 8
  pub inside : length front ≤ unwrap_or (d.file name).len 0
  pub told : d.tells ≡ true → front ≡ take 8 (bytes_of (d.file name).now)

-- The changes that make the wanted value stand in its copy, up to its last sync: none where it reads as standing.
pub record Begins (copy : ℕ) (name : List ℕ) (want : PairValue) (d : DeviceState) (changes : List Change) : Type 0 where
  pub stands : Bool
  pub wanted : d.tells ≡ true → stands ≡ true → value_in copy (d.file name).now ≡ Some want
  pub unwanted : d.tells ≡ true → stands ≡ false → value_in copy (d.file name).now ≢ Some want
  pub none : stands ≡ true → changes ≡ []
  pub closing : List Change
  pub closes : stands ≡ false → Closes name d closing
  pub filling : stands ≡ false → changes ≡ closing ++ Sync ∷ Write name ∷ Sync ∷ Open name 0 ∷ []

-- the changes that are found to be left
pub record Finds (stem : List ℕ) (copy : ℕ) (want : PairValue) (d : DeviceState) (changes : List Change) : Type 0 where
  pub gate : Bool
  pub has_gate : gate ≡ true → HasGate (d.file (copy_name stem (1 - copy))) 0
  pub found : d.tells ≡ true → gate ≡ is_open (d.file (copy_name stem (1 - copy))).now 0
  pub front : List Change
  pub begins : Begins copy (copy_name stem copy) want d front
  pub changes_are : changes ≡ front ++ Sync ∷ ending (copy_name stem (1 - copy)) gate

-- the write of the body, or of one gate
abbrev pub IsPairWrite : PairValue → ℕ → ℕ → Type 0
IsPairWrite want at n = ((at ≡ 8) × (n ≡ 8 + length (pair_body want))) ⊎ ((at < 8) × (n ≡ 1))

-- when each answer comes of a step, whatever the device holds: a write to a copy passed the capacity
abbrev pub PairAnswers : {T : Type 0} → List ℕ → PairValue → Option (List Change) → DeviceState → Result T DevError → Type 0
PairAnswers stem want stage d (Ok _) = (name : List ℕ) → next_of stage ≡ Some (Write name) → ¬ Passes (d.file name) (used_of d) d.capacity 8 (8 + length (pair_body want))
PairAnswers stem want stage d (Err Failed) = Unit {0}
PairAnswers stem want stage d (Err Full) = (name : List ℕ) × IsCopyName stem name × (at : ℕ) × (n : ℕ) × Passes (d.file name) (used_of d) d.capacity at n × IsPairWrite want at n
PairAnswers stem want stage d (Err Memory) = Unit {0}
PairAnswers stem want stage d (Err _) = ⊥

-- when each answer comes of a step on the way: the write of the body alone passes the capacity
abbrev pub StepAnswers : {T : Type 0} → List ℕ → PairValue → Option (List Change) → DeviceState → Result T DevError → Type 0
StepAnswers stem want stage d (Ok _) = (name : List ℕ) → next_of stage ≡ Some (Write name) → ¬ Passes (d.file name) (used_of d) d.capacity 8 (8 + length (pair_body want))
StepAnswers stem want stage d (Err Failed) = Unit {0}
StepAnswers stem want stage d (Err Full) = (name : List ℕ) × (next_of stage ≡ Some (Write name)) × Passes (d.file name) (used_of d) d.capacity 8 (8 + length (pair_body want))
StepAnswers stem want stage d (Err Memory) = Unit {0}
StepAnswers stem want stage d (Err _) = ⊥

-- a step on the way: whatever a stop leaves, the old value stands or the wanted one; and what is left after a step that was made
pub record Goes {T : Type 0} (stem : List ℕ) (old : Option PairValue) (want : PairValue) (result : Result T DevError) (after : Option (List Change)) (new : DeviceState) : Type 0 where
  pub leaves : new.tells ≡ true → PairLeaves stem new (IsOldOrWanted old want)
  pub stage : OnOk result (IsPairStage stem old want new after)

-- the wanted value stands, stable, and the other copy is shut, stable
abbrev pub PairStands : List ℕ → PairValue → DeviceState → Type 0
PairStands stem want d = HasCome (copy_of want) want (d.file (copy_name stem (copy_of want))) (d.file (copy_name stem (1 - copy_of want)))

-- the change that comes next is made, or refused; where there is none, nothing is changed
abbrev pub StepMade : {T : Type 0} → Option (List Change) → List ℕ → Result T DevError → DeviceState → DeviceState → Type 0
StepMade None body result old new = IsUnchanged old new × IsOk result × HasDeviceCause old new result
StepMade (Some []) body result old new = IsUnchanged old new × IsOk result × HasDeviceCause old new result
StepMade (Some (change ∷ later)) body result old new = Makes change body result old new

-- an answer without its value
abbrev pub bare : {T : Type 0} → Result T DevError → Result (Unit {0}) DevError
bare (Ok x) = Ok (tt {0})
bare (Err fault) = Err fault

-- What a step that was made leaves of the room for the body: where that is still to be written, it was before, and no length
-- is another; where it is to be written no longer, it wasn't before, or its write came next.
pub record KeepsRoom (stem : List ℕ) (want : PairValue) (before after : Option (List Change)) (old new : DeviceState) : Type 0 where
  pub left : IsToWrite stem want new after → IsToWrite stem want old before × KeepsLengths old new
  pub gone : ¬ IsToWrite stem want new after → (¬ IsToWrite stem want old before) ⊎ (next_of before ≡ Some (Write (copy_name stem (copy_of want))))

-- One call of a pair's step, whole: its answer, the stage before and after, and the state before and after. What is said
-- of each value holds where the stage is one of the way from it.
pub record StepsPair (stem : List ℕ) (want : PairValue) (result : Result Bool DevError) (before after : Option (List Change)) (old new : DeviceState) : Type 0 where
  pub answer : PairAnswers stem want before old result
  pub exact : (value : Option PairValue) → IsPairStage stem value want old before → StepAnswers stem want before old result
  pub goes : (value : Option PairValue) → IsPairStage stem value want old before → Goes stem value want result after new
  pub room : (value : Option PairValue) → IsPairStage stem value want old before → old.tells ≡ true → OnOk result (KeepsRoom stem want before after old new)
  pub made : (changes : List Change) → before ≡ Some changes → StepMade (Some changes) (pair_body want) (bare result) old new
  pub passed : (changes : List Change) → before ≡ Some changes → OnOk result (after ≡ passed before)
  pub stage : IsStageOf stem after
  pub over : IfOk result (λ over. over ≡ is_over after)
  pub stands : (value : Option PairValue) → IsPairStage stem value want old before → IfOk result (λ over. over ≡ true → old.tells ≡ true → PairStands stem want new)
  pub fewer : IfOk result (λ over. over ≡ false → left after < left before)
  pub refused : OnErr result (after ≡ before)
  pub alike : OnErr result (ReadsAlike old new)
  pub spared : IsSpared old new result
  pub only : ChangesPair stem old new
  pub rest : OnOk result ((q : List ℕ) → q ≢ copy_name stem 0 → q ≢ copy_name stem 1 → IsAtRest (old.file q) → IsAtRest (new.file q))
  pub cause : HasDeviceCause old new result

-- the change that comes next may be made
abbrev pub MayStep : Option (List Change) → List ℕ → Type 0
MayStep None body = Unit {0}
MayStep (Some []) body = Unit {0}
MayStep (Some (change ∷ later)) body = MayMake change body

-- the change is a write that passes the capacity, where a body of n bytes is written
abbrev pub PassesBy : ℕ → Option Change → DeviceState → Type 0
PassesBy n (Some (Open name gate)) d = Passes (d.file name) (used_of d) d.capacity gate 1
PassesBy n (Some (Close name gate)) d = Passes (d.file name) (used_of d) d.capacity gate 1
PassesBy n (Some (Write name)) d = Passes (d.file name) (used_of d) d.capacity 8 (8 + n)
PassesBy n _ d = ⊥

-- Full exactly where the change that comes next passes the capacity, whatever the device tells
abbrev pub NextAnswers : {T : Type 0} → ℕ → Option Change → DeviceState → Result T DevError → Type 0
NextAnswers n next d (Ok _) = ¬ PassesBy n next d
NextAnswers n next d (Err Full) = PassesBy n next d
NextAnswers n next d (Err _) = Unit {0}
