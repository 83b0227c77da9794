-- Why a call on a device of a bay was refused, and what is told of it.
use Rattle.std.specs.Prelude.{◌≡◌, ◌≢◌, ℕ, Bool, true, false, List, Result, Err, Option, None, Some}
use Rattle.scr_base.specs.declared.answers.Refusal.{Refusal}
use Rattle.scr_base.specs.declared.answers.Refusal.TheVariants as refusal
use Rattle.scr_base.specs.Causes.{Rose}
use Rattle.node_device.specs.DeviceState.{DeviceState, used_of}
use Rattle.node_device.specs.Answers.{Passes}
use Rattle.node_device.specs.declared.device.DevError.{DevError}
use Rattle.node_device.specs.declared.device.DevError.TheVariants as device
use Rattle.site_calls.specs.declared.trouble.Trouble.{Trouble}
use Rattle.site_calls.specs.declared.trouble.Trouble.TheVariants as error

-- the device's count of faults rose to this, and no other's changed
pub record IsFault (old new : ℕ → DeviceState) (node count : ℕ) : Type 0 where
  pub now : count ≡ (new node).faults
  pub rose : Rose (old node).faults count
  pub others : (place : ℕ) → place ≢ node → (new place).faults ≡ (old place).faults

-- no device's count of faults changed
abbrev pub IsCalm : (ℕ → DeviceState) → (ℕ → DeviceState) → Type 0
IsCalm old new = (place : ℕ) → (new place).faults ≡ (old place).faults

-- A write that passes the capacity, of those that may be made. It is told by the place of its device, the file's name, where in
-- the file it begins, and how many bytes it has.
pub record PassesAt (may : ℕ → List ℕ → ℕ → ℕ → Type 0) (place : ℕ) (d : DeviceState) : Type 0 where
  pub name : List ℕ
  pub at : ℕ
  pub count : ℕ
  pub own : may place name at count
  pub passes : Passes (d.file name) (used_of d) d.capacity at count

-- such a write would have passed the capacity of the device, of which so much was used
pub record IsFull (may : ℕ → List ℕ → ℕ → ℕ → Type 0) (old new : ℕ → DeviceState) (node used capacity : ℕ) : Type 0 where
  pub used_is : used ≡ used_of (old node)
  pub capacity_is : capacity ≡ (old node).capacity
  pub passes : PassesAt may node (old node)
  pub calm : IsCalm old new

-- a fault only where that count rose, a full device only where a write passes, and no count rose otherwise
abbrev pub CallCause : {T : Type 0} → (ℕ → List ℕ → ℕ → ℕ → Type 0) → (ℕ → DeviceState) → (ℕ → DeviceState) → Result T Trouble → Type 0
CallCause may old new (Err (error.Fault node count)) = IsFault old new node count
CallCause may old new (Err (error.Full node used capacity)) = IsFull may old new node used capacity
CallCause may old new _ = IsCalm old new

-- what a site answers after a call at this place was refused so
abbrev pub trouble_of : ℕ → DeviceState → DevError → Trouble
trouble_of place d device.Failed = error.Fault place d.faults
trouble_of place d device.Full = error.Full place (used_of d) d.capacity
trouble_of place d _ = error.Memory

-- what is told of a call that was refused; want of memory isn't told
abbrev pub told_trouble : Trouble → Option Refusal
told_trouble error.Memory = None
told_trouble (error.Fault node count) = Some (refusal.Device node count)
told_trouble (error.Full node used capacity) = Some (refusal.Full node used capacity)

-- the device failed
abbrev pub is_device_fault : Trouble → Bool
is_device_fault (error.Fault node count) = true
is_device_fault _ = false
