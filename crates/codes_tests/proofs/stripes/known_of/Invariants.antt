use Rattle.std.proofs.Common.{◌≡◌, ℕ, ◌<◌, None, length, slice_index_or}
use Rattle.std.specs.Option.{IfSome}
use Rattle.codes_tests.proofs.stripes.known_of.Given as goal

abbrev pub invariant-loop-place : goal.invariant-loop-place
invariant-loop-place l = record {
  count : length l.known.items ≡ l.place;
  each : (i : ℕ) → i < l.place → IfSome (slice_index_or l.known.items i None) (λ s. length s ≡ 3);
}
