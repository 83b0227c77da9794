-- When each answer of a call on the index comes.
use Rattle.std.specs.Prelude.{◌≡◌, ℕ, Result, Ok, Err}
use Rattle.scr_base.specs.Causes.{Rose}
use Rattle.node_device.specs.DeviceState.{DeviceState, used_of}
use Rattle.node_device.specs.declared.device.DevError.{DevError}
use Rattle.node_device.specs.declared.device.DevError.TheVariants as device
use Rattle.prefix_index.specs.declared.error.IndexError.{IndexError}
use Rattle.prefix_index.specs.declared.error.IndexError.TheVariants.{Device, Full, Memory}

-- what is answered where the device refused a call so
abbrev pub index_fault : DeviceState → DevError → IndexError
index_fault d device.Failed = Device d.faults
index_fault d device.Full = Full (used_of d) d.capacity
index_fault d _ = Memory

-- the count of faults rose to this
pub record IsFault (old new : DeviceState) (count : ℕ) : Type 0 where
  pub now : count ≡ new.faults
  pub rose : Rose old.faults count

-- A fault comes only where the count rose to the one that is told, and any other answer leaves the count.
abbrev pub HasIndexCause : {T : Type 0} → DeviceState → DeviceState → Result T IndexError → Type 0
HasIndexCause old new (Err (Device count)) = IsFault old new count
HasIndexCause old new _ = new.faults ≡ old.faults

-- the answers of a call that reads alone
abbrev pub ReadingAnswers : {T : Type 0} → Result T IndexError → Type 0
ReadingAnswers (Ok _) = Unit {0}
ReadingAnswers (Err (Device count)) = Unit {0}
ReadingAnswers (Err Memory) = Unit {0}
ReadingAnswers (Err _) = ⊥

-- what a device answered, as the index tells it
abbrev pub index_result : {T : Type 0} → DeviceState → Result T DevError → Result T IndexError
index_result d (Ok x) = Ok x
index_result d (Err fault) = Err (index_fault d fault)

-- it was done, or the device failed
abbrev pub IsDeviceAlone : {T : Type 0} → Result T IndexError → Type 0
IsDeviceAlone (Ok _) = Unit {0}
IsDeviceAlone (Err (Device count)) = Unit {0}
IsDeviceAlone (Err _) = ⊥
