-- What a command does to the devices of a site.
use Rattle.std.specs.Prelude.{◌≡◌, ◌≤◌, ℕ, true, List, codes, Option, Result, Ok}
use Rattle.scr_base.specs.Halt.{Halt}
use Rattle.scr_base.specs.declared.content.HaltWord.{HaltWord}
use Rattle.scr_base.specs.declared.memory.Memory.{Memory}
use Rattle.node_device.specs.File.{IsAtRest}
use Rattle.node_device.specs.DeviceState.{DeviceState}
use Rattle.node_device.specs.Calls.{Crashes}
use Rattle.node_device.specs.Rack.{OnlyAt}
use Rattle.gated_record.specs.PairStages.{IsCopyName}
use Rattle.halt_file.specs.Stores.{halt_now}
use Rattle.admin.specs.Causes.{wanted}
use Rattle.admin.specs.Halting.{IsOldOrWanted, SetsHalt}
use Rattle.admin.specs.declared.answer.Answer.{Answer}
use Rattle.admin.specs.declared.answer.Answer.TheVariants.{Done}

-- nothing is pending on the nodes and the prefix
abbrev pub IsQuiet : (ℕ → DeviceState) → Type 0
IsQuiet states = (place : ℕ) (q : List ℕ) → place ≤ 32 → IsAtRest ((states place).file q)

-- each device tells its contents
abbrev pub Tells : (ℕ → DeviceState) → Type 0
Tells states = (place : ℕ) → place ≤ 32 → (states place).tells ≡ true

-- every device was stopped
abbrev pub IsStop : (ℕ → DeviceState) → (ℕ → DeviceState) → Type 0
IsStop old new = (place : ℕ) → Crashes (old place) (new place)

-- Such conditions are told on the prefix, every other file reads as before, and nothing is pending.
pub record StandsWith (P : Halt → Type 0) (old new : ℕ → DeviceState) : Type 0 where
  pub halt : P (halt_now (new 32))
  pub reads : (place : ℕ) (q : List ℕ) → place ≤ 32 → (place ≡ 32 → IsCopyName (codes "halt") q → ⊥) → ((new place).file q).now ≡ ((old place).file q).now
  pub quiet : IsQuiet new

-- One command on the halt conditions, whole. Of devices on which nothing was pending: once it was done, the wanted conditions
-- stand, after a stop too; and whatever it answers, after a stop those of before or the wanted ones stand.
pub record RunsHalt (word : Option HaltWord) (result : Result Answer Memory) (old new : ℕ → DeviceState) : Type 0 where
  pub prefix : OnlyAt 32 (SetsHalt word result) old new
  pub stands : IsQuiet old → (old 32).tells ≡ true → result ≡ Ok Done → StandsWith (λ halt. halt ≡ wanted word (old 32)) old new
  pub stays : IsQuiet old → (left : ℕ → DeviceState) → IsStop new left → Tells left → result ≡ Ok Done → StandsWith (λ halt. halt ≡ wanted word (old 32)) old left
  pub stops : IsQuiet old → (left : ℕ → DeviceState) → IsStop new left → Tells left → StandsWith (IsOldOrWanted word (old 32)) old left
