use Rattle.std.proofs.Common.{◌≡◌, ℕ, ◌<◌, length, slice_index}
use Rattle.xor_segments.proofs.Sums.{others_below}
use Rattle.xor_segments.proofs.rebuild.Given as goal

abbrev pub invariant-loop-j : goal.invariant-loop-j
invariant-loop-j l = (b : ℕ) → b < length l.out → slice_index l.out b ≡ others_below l.stripe.items l.lost b l.j
