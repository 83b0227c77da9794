-- A run's number on its way to the prefix.
use Rattle.std.specs.Prelude.{◌≡◌, ◌⊎◌, ◌≤◌, ℕ, List, [], Option, None, Some, codes, length, Result, IfOk}
use Rattle.scr_base.specs.declared.change.Change.{Change}
use Rattle.node_device.specs.DeviceState.{DeviceState, IsUnchanged}
use Rattle.node_device.specs.Answers.{HasDeviceCause, NamesAnswers}
use Rattle.node_device.specs.declared.device.DevError.{DevError}
use Rattle.halt_file.specs.Conditions.{conditions}
use Rattle.halt_file.specs.Stores.{halt_now}
use Rattle.halt_file.specs.declared.halt.Halt.{Halt}
use Rattle.gated_record.specs.Pair.{copy_name, pair_now}
use Rattle.gated_record.specs.PairStages.{IsStageOf}
use Rattle.gated_record.specs.declared.pair.PairValue.{PairValue}

-- a copy of the run's number
abbrev pub IsNumberFile : List ℕ → Type 0
IsNumberFile name = (name ≡ copy_name (codes "run") 0) ⊎ (name ≡ copy_name (codes "run") 1)

-- the value that is to stand, and the changes that are left, where they are known
pub record Way : Type 0 where
  pub want : PairValue
  pub changes : Option (List Change)

-- the stage is one of the pair `run`, and the value may stand there
pub record IsStore (want : PairValue) (changes : Option (List Change)) : Type 0 where
  pub stage : IsStageOf (codes "run") changes
  pub version : 1 ≤ want.version
  pub plain : want.body ≡ []

-- the way of a number that has made no change
abbrev pub way_of : ℕ → Way
way_of run = record { want = record { version = run; body = [] }; changes = None }

-- the number of the last run, 0 for none
abbrev pub run_number : Option PairValue → ℕ
run_number None = 0
run_number (Some value) = value.version

-- the value of the pair `run` is read
pub record LoadsNumber (result : Result (Option PairValue) DevError) (old new : DeviceState) : Type 0 where
  pub answer : NamesAnswers result
  pub value : old.tells ≡ Rattle.std.specs.Prelude.true → IfOk result (λ value. value ≡ pair_now (codes "run") old)
  pub same : IsUnchanged old new
  pub cause : HasDeviceCause old new result

-- the conditions of the pair `halt` are read
pub record LoadsHalt (result : Result Halt DevError) (old new : DeviceState) : Type 0 where
  pub answer : NamesAnswers result
  pub value : old.tells ≡ Rattle.std.specs.Prelude.true → IfOk result (λ halt. conditions halt ≡ halt_now old)
  pub same : IsUnchanged old new
  pub cause : HasDeviceCause old new result
