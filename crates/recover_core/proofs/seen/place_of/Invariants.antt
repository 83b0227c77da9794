use Rattle.std.proofs.Common.{◌≡◌, ◌<◌, ◌≤◌, ◌-◌, ℕ, Some, length, slice_get}
use Rattle.recover_core.specs.Seen.{IsEarlier, AreRising}
use Rattle.recover_core.specs.declared.seen.SeenSet.{SeenSet}
use Rattle.recover_core.proofs.seen.place_of.Given as goal

-- the datasets below `low` are before the identity, and the one at `high` isn't
abbrev pub invariant-loop-low : goal.invariant-loop-low
invariant-loop-low l = record {
  inside : l.high ≤ length l.sets;
  apart : l.low ≤ l.high;
  before : AreRising l.sets → (i : ℕ) (x : SeenSet) → i < l.low → slice_get l.sets i ≡ Some x → IsEarlier x.desc.which l.which;
  stop : AreRising l.sets → (x : SeenSet) → slice_get l.sets l.high ≡ Some x → ¬ IsEarlier x.desc.which l.which;
}

abbrev pub decreases-loop-low : goal.decreases-loop-low
decreases-loop-low l = l.high - l.low
