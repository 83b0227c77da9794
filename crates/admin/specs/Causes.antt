-- When each answer of a command on the halt conditions comes, by the device of the prefix before and after.
use Rattle.std.specs.Prelude.{◌≡◌, ◌≢◌, ◌+◌, ℕ, true, List, length, codes, None, Some, Option, Result, Ok, IsErr}
use Rattle.scr_base.specs.Causes.{Rose}
use Rattle.scr_base.specs.Halt.{Halt, halt_after}
use Rattle.scr_base.specs.declared.content.HaltWord.{HaltWord}
use Rattle.scr_base.specs.declared.memory.Memory.{Memory}
use Rattle.node_device.specs.File.{IsAtRest}
use Rattle.node_device.specs.DeviceState.{DeviceState, used_of}
use Rattle.node_device.specs.Answers.{Passes}
use Rattle.node_device.specs.declared.device.DevError.{DevError}
use Rattle.node_device.specs.declared.device.DevError.TheVariants as device
use Rattle.gated_record.specs.Frames.{KeepsLengths}
use Rattle.gated_record.specs.Pair.{value_in, copy_name, copy_of, pair_body, pair_now}
use Rattle.gated_record.specs.PairStages.{IsCopyName}
use Rattle.gated_record.specs.PairSteps.{IsPairWrite}
use Rattle.gated_record.specs.PairNext.{following}
use Rattle.gated_record.specs.declared.pair.PairValue.{PairValue}
use Rattle.halt_file.specs.Payloads.{halt_payload}
use Rattle.halt_file.specs.Stores.{halt_now}
use Rattle.admin.specs.declared.answer.Answer.{Answer}
use Rattle.admin.specs.declared.answer.Answer.TheVariants as answer

-- the conditions that a device is to tell: those of before with one set, or none
abbrev pub wanted : Option HaltWord → DeviceState → Halt
wanted word d = halt_after (halt_now d) word

-- The device tells its contents, and nothing is pending of the pair `halt`.
pub record IsReady (d : DeviceState) : Type 0 where
  pub tells : d.tells ≡ true
  pub zero : IsAtRest (d.file (copy_name (codes "halt") 0))
  pub one : IsAtRest (d.file (copy_name (codes "halt") 1))

-- the count of faults rose to this
pub record IsFault (old new : DeviceState) (count : ℕ) : Type 0 where
  pub now : count ≡ new.faults
  pub rose : Rose old.faults count

-- A write of these conditions to the pair `halt`, of its record's body or at one of its gates, passes the capacity.
pub record PassesAt (want : Halt) (d : DeviceState) : Type 0 where
  pub name : List ℕ
  pub copy : IsCopyName (codes "halt") name
  pub at : ℕ
  pub count : ℕ
  pub own : IsPairWrite (following None (halt_payload want)) at count
  pub passes : Passes (d.file name) (used_of d) d.capacity at count

-- the value that is to stand: these conditions, in the version after the one that stands
abbrev pub next_value : Halt → DeviceState → PairValue
next_value want d = following (pair_now (codes "halt") d) (halt_payload want)

-- That value doesn't stand in its copy, and the write of its body there passes the capacity.
pub record BodyPasses (want : Halt) (d : DeviceState) : Type 0 where
  pub missing : value_in (copy_of (next_value want d)) (d.file (copy_name (codes "halt") (copy_of (next_value want d)))).now ≢ Some (next_value want d)
  pub passes : Passes (d.file (copy_name (codes "halt") (copy_of (next_value want d)))) (used_of d) d.capacity 8 (8 + length (pair_body (next_value want d)))

-- Such a write passes the capacity, with so much used: of the wanted conditions where the device tells what stands, and there,
-- where nothing was pending, that of the body, in the room that there was before the command.
pub record IsFull (word : Option HaltWord) (old new : DeviceState) (used capacity : ℕ) : Type 0 where
  pub used_is : used ≡ used_of new
  pub capacity_is : capacity ≡ new.capacity
  pub want : Halt
  pub want_is : old.tells ≡ true → want ≡ wanted word old
  pub passes : PassesAt want new
  pub body : IsReady old → BodyPasses want old
  pub lengths : IsReady old → KeepsLengths old new
  pub used_before : IsReady old → used ≡ used_of old
  pub calm : new.faults ≡ old.faults

-- a fault only where the count rose, a full device only where a write passes, and the count stays otherwise
abbrev pub HaltCause : Option HaltWord → DeviceState → DeviceState → Result Answer Memory → Type 0
HaltCause word old new (Ok (answer.Device count)) = IsFault old new count
HaltCause word old new (Ok (answer.Full used capacity)) = IsFull word old new used capacity
HaltCause word old new _ = new.faults ≡ old.faults

-- what is answered where the device refused a call so
abbrev pub IsRefusal : DeviceState → DevError → Result Answer Memory → Type 0
IsRefusal d device.Failed result = result ≡ Ok (answer.Device d.faults)
IsRefusal d device.Full result = result ≡ Ok (answer.Full (used_of d) d.capacity)
IsRefusal d _ result = IsErr result
