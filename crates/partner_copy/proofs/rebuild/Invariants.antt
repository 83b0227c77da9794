use Rattle.std.proofs.Common.{◌≡◌, ℕ, ◌<◌, [], length, slice_index_or}
use Rattle.partner_copy.specs.Partner.{IsStreamOf}
use Rattle.partner_copy.proofs.rebuild.Given as goal

abbrev pub invariant-loop-i : goal.invariant-loop-i
invariant-loop-i l = record {
  count : length l.streams.items ≡ l.i;
  each : (k : ℕ) → k < l.i → IsStreamOf l.members.items k (slice_index_or l.streams.items k []);
}
