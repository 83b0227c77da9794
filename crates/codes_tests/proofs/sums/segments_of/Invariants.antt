use Rattle.std.proofs.Common.{◌≡◌, ℕ, ◌<◌, [], length, slice_index_or}
use Rattle.codes_tests.proofs.sums.segments_of.Given as goal

abbrev pub invariant-loop-row : goal.invariant-loop-row
invariant-loop-row l = record {
  count : length l.segments.items ≡ l.row-index;
  lengths : (j : ℕ) → j < l.row-index → length (slice_index_or l.segments.items j []) ≡ 3;
}
