-- A change that makes one write fits where that write does.
use Rattle.std.proofs.Common.{ℕ, List, subst}
use Rattle.node_device.specs.DeviceState.{DeviceState}
use Rattle.site_calls.specs.Writes.{IsWrite, PassesOn}

pub write_fits : (old : ℕ → DeviceState) (place : ℕ) (name : List ℕ) (at count : ℕ) → (PassesOn old place name at count → ⊥) → (p : ℕ) (n : List ℕ) (a k : ℕ) → IsWrite place name at count p n a k → PassesOn old p n a k → ⊥
write_fits old place name at count never p n a k is passes = never
    (subst (λ (x : ℕ). PassesOn old x name at count) is.0 (subst (λ (x : List ℕ). PassesOn old p x at count) is.1 (subst (λ (x : ℕ). PassesOn old p n x count) is.2 (subst (λ (x : ℕ). PassesOn old p n a x) is.3 passes))))
