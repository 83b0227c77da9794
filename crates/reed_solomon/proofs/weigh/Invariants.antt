use Rattle.std.proofs.Common.{◌≡◌, ℕ, ◌<◌, length, slice_index}
use Rattle.poly_code.specs.Polynomial.{weighted_sum}
use Rattle.reed_solomon.specs.Stripe.{segment_of}
use Rattle.reed_solomon.proofs.weigh.Given as goal

abbrev pub invariant-loop-j : goal.invariant-loop-j
invariant-loop-j l = (b : ℕ) → b < length l.out
    → slice_index l.out b ≡ weighted_sum (slice_index l.weights) (λ j. slice_index (segment_of l.known.items (slice_index l.places j)) b) l.j
