-- What a command on the halt conditions does to the device of the prefix.
use Rattle.std.specs.Prelude.{◌≡◌, ◌≢◌, ◌⊎◌, ℕ, true, List, codes, Option, Result, Ok, IfOk}
use Rattle.scr_base.specs.Halt.{Halt}
use Rattle.scr_base.specs.declared.content.HaltWord.{HaltWord}
use Rattle.scr_base.specs.declared.memory.Memory.{Memory}
use Rattle.node_device.specs.File.{IsAtRest}
use Rattle.node_device.specs.DeviceState.{DeviceState, IsUnchanged}
use Rattle.node_device.specs.Answers.{HasDeviceCause, NamesAnswers}
use Rattle.node_device.specs.declared.device.DevError.{DevError}
use Rattle.gated_record.specs.Frames.{ChangesPair}
use Rattle.gated_record.specs.Pair.{copy_name}
use Rattle.halt_file.specs.Conditions.{conditions}
use Rattle.halt_file.specs.Stores.{halt_now, HaltLeaves}
use Rattle.halt_file.specs.declared.halt.Halt.{Halt as HaltFile}
use Rattle.admin.specs.Causes.{wanted, IsReady, BodyPasses, HaltCause}
use Rattle.admin.specs.declared.answer.Answer.{Answer}
use Rattle.admin.specs.declared.answer.Answer.TheVariants.{Done}

-- the conditions of before, or the wanted ones
abbrev pub IsOldOrWanted : Option HaltWord → DeviceState → Halt → Type 0
IsOldOrWanted word old halt = (halt ≡ halt_now old) ⊎ (halt ≡ wanted word old)

-- The device tells these conditions, and so it does after any stop; nothing is pending of the pair `halt`.
pub record Keeps (want : Halt) (d : DeviceState) : Type 0 where
  pub tells : halt_now d ≡ want
  pub stays : HaltLeaves d (λ halt. halt ≡ want)
  pub zero : IsAtRest (d.file (copy_name (codes "halt") 0))
  pub one : IsAtRest (d.file (copy_name (codes "halt") 1))

-- every other file that was at rest is
abbrev pub RestsBeside : DeviceState → DeviceState → Type 0
RestsBeside old new = (q : List ℕ) → q ≢ copy_name (codes "halt") 0 → q ≢ copy_name (codes "halt") 1 → IsAtRest (old.file q) → IsAtRest (new.file q)

-- One command, whole: its answer, the state before and the state after.
pub record SetsHalt (word : Option HaltWord) (result : Result Answer Memory) (old new : DeviceState) : Type 0 where
  pub done : IsReady old → result ≡ Ok Done → Keeps (wanted word old) new
  pub fits : IsReady old → result ≡ Ok Done → ¬ BodyPasses (wanted word old) old
  pub leaves : IsReady old → HaltLeaves new (IsOldOrWanted word old)
  pub cause : HaltCause word old new result
  pub only : ChangesPair (codes "halt") old new
  pub rest : result ≡ Ok Done → RestsBeside old new

-- the wanted conditions are found
pub record FindsWanted (word : Option HaltWord) (result : Result HaltFile DevError) (old new : DeviceState) : Type 0 where
  pub answer : NamesAnswers result
  pub found : old.tells ≡ true → IfOk result (λ want. conditions want ≡ wanted word old)
  pub same : IsUnchanged old new
  pub cause : HasDeviceCause old new result
