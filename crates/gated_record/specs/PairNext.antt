-- A pair's way to a payload, in the version after the one that stands.
use Rattle.std.specs.Prelude.{◌≡◌, ◌≢◌, ◌<◌, ◌^◌, ℕ, Bool, true, false, List, length, Option, None, Some, Result, OnOk, OnErr, IfOk}
use Rattle.scr_base.specs.declared.change.Change.{Change}
use Rattle.scr_base.specs.Stages.{left, next_of, is_over}
use Rattle.node_device.specs.File.{IsAtRest}
use Rattle.node_device.specs.DeviceState.{DeviceState, ReadsAlike}
use Rattle.node_device.specs.Answers.{HasDeviceCause}
use Rattle.node_device.specs.declared.device.DevError.{DevError}
use Rattle.gated_record.specs.Frames.{ChangesPair}
use Rattle.gated_record.specs.Pair.{next_version, copy_name, pair_body}
use Rattle.gated_record.specs.PairStages.{PairLeaves, IsOldOrWanted, IsPairStage, IsStageOf}
use Rattle.gated_record.specs.PairSteps.{PairAnswers, NextAnswers, StepAnswers, PairStands, KeepsRoom}
use Rattle.gated_record.specs.declared.pair.PairValue.{PairValue}

-- the version after that of a standing value, and 1 where none stands
abbrev pub version_after : Option PairValue → ℕ
version_after None = 1
version_after (Some value) = next_version value.version

-- a payload in the version after that of a standing value
abbrev pub following : Option PairValue → List ℕ → PairValue
following value payload = record { version = version_after value; body = payload }

-- A stage of the way from an old value to a payload in the version after it.
abbrev pub IsNextStage : List ℕ → Option PairValue → List ℕ → DeviceState → Option (List Change) → Type 0
IsNextStage stem old payload d None = IsPairStage stem old (following old payload) d None
IsNextStage stem old payload d (Some changes) = IsPairStage stem old (following old payload) d (Some changes) × (version_after old < 2 ^ 32)

-- What a step does whose stage is one of the way from an old value: whatever a stop leaves, the old value stands or the
-- payload in the next version; and what is left after a step that was made, with the room for the payload.
pub record GoesOn (stem : List ℕ) (old : Option PairValue) (payload : List ℕ) (result : Result Bool DevError) (before after : Option (List Change)) (d e : DeviceState) : Type 0 where
  pub exact : StepAnswers stem (following old payload) before d result
  pub leaves : PairLeaves stem e (IsOldOrWanted old (following old payload))
  pub stage : OnOk result (IsNextStage stem old payload e after)
  pub room : OnOk result (KeepsRoom stem (following old payload) before after d e)
  pub stands : IfOk result (λ over. over ≡ true → PairStands stem (following old payload) e)

-- One call of a pair's step to a payload, whole: its answer, the stage before and after, and the state before and after.
-- Of a begun stage Full is answered exactly where the change that comes next passes the capacity (`full`).
-- What is said of each value holds on a device that tells its contents, where the stage is one of the way from that value.
pub record StepsNext (stem payload : List ℕ) (result : Result Bool DevError) (before after : Option (List Change)) (old new : DeviceState) : Type 0 where
  pub answer : PairAnswers stem (following None payload) before old result
  pub full : (changes : List Change) → before ≡ Some changes → NextAnswers (length (pair_body (following None payload))) (next_of before) old result
  pub goes_on : old.tells ≡ true → (value : Option PairValue) → IsNextStage stem value payload old before → GoesOn stem value payload result before after old new
  pub stage : IsStageOf stem after
  pub over : IfOk result (λ over. over ≡ is_over after)
  pub fewer : IfOk result (λ over. over ≡ false → left after < left before)
  pub refused : OnErr result (after ≡ before)
  pub alike : OnErr result (ReadsAlike old new)
  pub only : ChangesPair stem old new
  pub rest : OnOk result ((q : List ℕ) → q ≢ copy_name stem 0 → q ≢ copy_name stem 1 → IsAtRest (old.file q) → IsAtRest (new.file q))
  pub cause : HasDeviceCause old new result
