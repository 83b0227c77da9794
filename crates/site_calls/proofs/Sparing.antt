-- A call that is refused without a fault leaves each device as it was.
use Rattle.std.proofs.Common.{◌≡◌, ◌≢◌, ◌⊎◌, inl, inr, ℕ, true, false, Result, Ok, Err, sym, subst, ap, ◌∙◌}
use Rattle.std.proofs.Math.Path.{fun_ext}
use Rattle.std.proofs.lemmas.Bool.{cases_eq}
use Rattle.node_device.specs.DeviceState.{DeviceState}
use Rattle.node_device.specs.Answers.{IsSpared, SyncAnswers}
use Rattle.node_device.specs.declared.device.DevError.{DevError}
use Rattle.node_device.specs.declared.device.DevError.TheVariants as device
use Rattle.site_calls.specs.Causes.{trouble_of, is_device_fault}
use Rattle.site_calls.specs.declared.trouble.Trouble.{Trouble}
use Rattle.site_calls.specs.declared.trouble.Trouble.TheVariants as error

-- one device alone was called, and is as it was
pub same_at : (place : ℕ) (old new : ℕ → DeviceState) → ((q : ℕ) → q ≢ place → new q ≡ old q) → new place ≡ old place → new ≡ old
same_at place old new others here = fun_ext (λ p. pick p (cases_eq p place)) where
  pick : (p : ℕ) → (p ≡ place) ⊎ (p ≢ place) → new p ≡ old p
  pick p (inl is) = subst (λ (q : ℕ). new q ≡ old q) (sym is) here
  pick p (inr away) = others p away

-- no fault is told of it
pub spared_at : (T : Type 0) (place : ℕ) (old new : ℕ → DeviceState) (fault : DevError) (trouble : Trouble) → ((q : ℕ) → q ≢ place → new q ≡ old q) → IsSpared {T = T} (old place) (new place) (Err fault) → trouble ≡ trouble_of place (new place) fault
    → is_device_fault trouble ≡ false → new ≡ old
spared_at T place old new device.Failed trouble others spared is calm = absurd (let no : true ≡ false = sym (ap is_device_fault is) ∙ calm in cc no)
spared_at T place old new device.Full trouble others spared is calm = same_at place old new others spared
spared_at T place old new device.NoFile trouble others spared is memory = same_at place old new others spared
spared_at T place old new device.Range trouble others spared is memory = same_at place old new others spared
spared_at T place old new device.Memory trouble others spared is memory = same_at place old new others spared

-- a sync is refused by a fault alone
pub sync_spared : (T : Type 0) (old new : DeviceState) (fault : DevError) → SyncAnswers {T = T} (Err fault) → IsSpared {T = T} old new (Err fault)
sync_spared T old new device.Failed answer = tt
sync_spared T old new device.Full answer = absurd answer
sync_spared T old new device.NoFile answer = absurd answer
sync_spared T old new device.Range answer = absurd answer
sync_spared T old new device.Memory answer = absurd answer
