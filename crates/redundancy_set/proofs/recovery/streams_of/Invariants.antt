use Rattle.std.proofs.Common.{◌≡◌, ℕ, ◌<◌, [], length, slice_index, slice_index_or}
use Rattle.redundancy_set.specs.Recovered.{IsGivenBack}
use Rattle.redundancy_set.proofs.recovery.streams_of.Given as goal

abbrev pub invariant-loop-i : goal.invariant-loop-i
invariant-loop-i l = record {
  count : length l.streams.items ≡ l.i;
  each : (k : ℕ) → k < l.i → IsGivenBack l.scheme l.members.items l.stripes.len k (slice_index l.lengths.items k) (slice_index_or l.streams.items k []);
}
