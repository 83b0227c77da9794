use Rattle.std.proofs.Common.{◌≡◌, ℕ, ◌<◌, [], length, slice_index_or}
use Rattle.reed_solomon.specs.Stripe.{IsSegment}
use Rattle.reed_solomon.proofs.rebuild_stripe.Given as goal

abbrev pub invariant-loop-target : goal.invariant-loop-target
invariant-loop-target l = record {
  count : length l.stripe.items ≡ l.target;
  each : (i : ℕ) → i < l.target → IsSegment l.known.items l.places.items i (slice_index_or l.stripe.items i []);
}
