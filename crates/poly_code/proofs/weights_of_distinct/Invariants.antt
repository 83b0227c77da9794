use Rattle.std.proofs.Common.{◌≡◌, ℕ, ◌<◌, length, slice_index}
use Rattle.poly_code.specs.Lagrange.{weight_of}
use Rattle.poly_code.proofs.weights_of_distinct.Given as goal

abbrev pub invariant-loop-j : goal.invariant-loop-j
invariant-loop-j l = record {
  count : length l.weights.items ≡ l.j;
  each : (k : ℕ) → k < l.j → slice_index l.weights.items k ≡ weight_of (slice_index l.points) (length l.points) k l.target;
}
