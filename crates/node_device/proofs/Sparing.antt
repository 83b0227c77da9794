-- A call that changed nothing but the count of faults leaves the device as it was, where it is refused without a fault.
use Rattle.std.proofs.Common.{ℕ, Result, Ok, Err, ap, ◌∙◌}
use Rattle.node_device.specs.DeviceState.{DeviceState, IsUnchanged}
use Rattle.node_device.specs.Answers.{HasDeviceCause, IsSpared}
use Rattle.node_device.specs.declared.device.DevError.{DevError}
use Rattle.node_device.specs.declared.device.DevError.TheVariants as device

pub unchanged_spared : {T : Type 0} (old new : DeviceState) (result : Result T DevError) → IsUnchanged old new → HasDeviceCause old new result → IsSpared old new result
unchanged_spared old new (Ok value) same cause = tt
unchanged_spared old new (Err device.Failed) same cause = tt
unchanged_spared old new (Err device.Full) same cause = same ∙ ap (λ (n : ℕ). record old { faults = n }) cause
unchanged_spared old new (Err device.NoFile) same cause = same ∙ ap (λ (n : ℕ). record old { faults = n }) cause
unchanged_spared old new (Err device.Range) same cause = same ∙ ap (λ (n : ℕ). record old { faults = n }) cause
unchanged_spared old new (Err device.Memory) same cause = same ∙ ap (λ (n : ℕ). record old { faults = n }) cause
