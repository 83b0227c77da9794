use Rattle.std.proofs.Common.{◌≡◌, ℕ, ◌<◌, length, slice_index}
use Rattle.xor_segments.proofs.Sums.{sum_below}
use Rattle.xor_segments.proofs.parity.Given as goal

abbrev pub invariant-loop-i : goal.invariant-loop-i
invariant-loop-i l = (b : ℕ) → b < length l.out → slice_index l.out b ≡ sum_below l.stripe.items b l.i
