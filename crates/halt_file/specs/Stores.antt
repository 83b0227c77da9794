-- The conditions on a device: the pair `halt`.
use Rattle.std.specs.Prelude.{◌≡◌, ◌≢◌, ◌⊎◌, ◌<◌, ℕ, Bool, true, false, List, length, Option, None, Some, Result, OnOk, OnErr, IfOk, codes}
use Rattle.scr_base.specs.Halt.{Halt, no_halt}
use Rattle.scr_base.specs.Stages.{left, next_of, is_over}
use Rattle.scr_base.specs.declared.change.Change.{Change}
use Rattle.node_device.specs.File.{IsAtRest}
use Rattle.node_device.specs.DeviceState.{DeviceState, ReadsAlike}
use Rattle.node_device.specs.Answers.{HasDeviceCause}
use Rattle.node_device.specs.declared.device.DevError.{DevError}
use Rattle.gated_record.specs.Frames.{ChangesPair}
use Rattle.gated_record.specs.Pair.{pair_now, copy_name, pair_body}
use Rattle.gated_record.specs.PairStages.{PairLeaves, IsStageOf}
use Rattle.gated_record.specs.PairSteps.{PairAnswers, NextAnswers}
use Rattle.gated_record.specs.PairNext.{following, IsNextStage, GoesOn}
use Rattle.gated_record.specs.declared.pair.PairValue.{PairValue}
use Rattle.halt_file.specs.Payloads.{halt_payload, halt_of}

-- the conditions that a pair's value tells; where none stands, nothing is set
abbrev pub halt_in : Option PairValue → Halt
halt_in None = no_halt
halt_in (Some value) = halt_of value.body

-- the conditions that a device tells
abbrev pub halt_now : DeviceState → Halt
halt_now d = halt_in (pair_now (codes "halt") d)

-- whatever a stop leaves, the conditions that it tells are such
abbrev pub HaltLeaves : DeviceState → (Halt → Type 0) → Type 0
HaltLeaves d P = PairLeaves (codes "halt") d (λ value. P (halt_in value))

-- A stage of storing these conditions where that value stood.
abbrev pub IsStoring : Option PairValue → Halt → DeviceState → Option (List Change) → Type 0
IsStoring value want d stage = IsNextStage (codes "halt") value (halt_payload want) d stage

-- What a step of storing does where that value stood: a stop leaves the conditions of before or the wanted ones; and where
-- nothing is left to do, the device tells the wanted ones, and so it does after every stop.
pub record StoresOn (value : Option PairValue) (want : Halt) (result : Result Bool DevError) (before after : Option (List Change)) (d e : DeviceState) : Type 0 where
  pub pair : GoesOn (codes "halt") value (halt_payload want) result before after d e
  pub leaves : HaltLeaves e (λ h. (h ≡ halt_in value) ⊎ (h ≡ want))
  pub tells : IfOk result (λ over. over ≡ true → halt_now e ≡ want)
  pub stays : IfOk result (λ over. over ≡ true → HaltLeaves e (λ h. h ≡ want))

-- One call of storing, whole: its answer, the stage before and after, and the state before and after. What is said of each
-- value holds on a device that tells its contents, where the stage is one of storing where that value stood. Of a begun stage
-- Full is answered exactly where the change that comes next passes the capacity (`full`).
pub record StoresHalt (want : Halt) (result : Result Bool DevError) (before after : Option (List Change)) (old new : DeviceState) : Type 0 where
  pub answer : PairAnswers (codes "halt") (following None (halt_payload want)) before old result
  pub full : (changes : List Change) → before ≡ Some changes → NextAnswers (length (pair_body (following None (halt_payload want)))) (next_of before) old result
  pub stores : old.tells ≡ true → (value : Option PairValue) → IsStoring value want old before → StoresOn value want result before after old new
  pub stage : IsStageOf (codes "halt") after
  pub over : IfOk result (λ over. over ≡ is_over after)
  pub fewer : IfOk result (λ over. over ≡ false → left after < left before)
  pub refused : OnErr result (after ≡ before)
  pub alike : OnErr result (ReadsAlike old new)
  pub only : ChangesPair (codes "halt") old new
  pub rest : OnOk result ((q : List ℕ) → q ≢ copy_name (codes "halt") 0 → q ≢ copy_name (codes "halt") 1 → IsAtRest (old.file q) → IsAtRest (new.file q))
  pub cause : HasDeviceCause old new result
