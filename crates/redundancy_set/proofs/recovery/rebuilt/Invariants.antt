use Rattle.std.proofs.Common.{◌≡◌, ℕ, ◌*◌, List, [], length, take, min, slice_index_or}
use Rattle.member_shares.specs.Layout.{data_place}
use Rattle.redundancy_set.proofs.Segments.{AreHeld}
use Rattle.redundancy_set.proofs.recovery.rebuilt.Given as goal

abbrev pub invariant-loop-stripe : goal.invariant-loop-stripe
invariant-loop-stripe l = record {
  size : length l.stream.items ≡ min (data_place l.stripes.members l.stripes.parity l.i l.stripe * l.stripes.len) l.len;
  same : (streams shares : List (List ℕ)) → AreHeld l.fn.scheme l.stripes.members l.stripes.parity l.stripes.len streams shares l.members.items
      → length (slice_index_or streams l.i []) ≡ l.len
      → l.stream.items ≡ take (data_place l.stripes.members l.stripes.parity l.i l.stripe * l.stripes.len) (slice_index_or streams l.i []);
}
