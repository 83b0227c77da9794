use Rattle.std.proofs.Common.{◌≡◌, slice_index}
use Rattle.poly_code.specs.Polynomial.{weighted_sum}
use Rattle.poly_code.proofs.combination.Given as goal

abbrev pub invariant-loop-i : goal.invariant-loop-i
invariant-loop-i l = l.total ≡ weighted_sum (slice_index l.weights) (slice_index l.values) l.i
