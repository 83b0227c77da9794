use Rattle.std.proofs.Common.{◌≡◌, ℕ, ◌*◌, List, [], take, slice_index_or}
use Rattle.member_shares.specs.Layout.{parity_place}
use Rattle.member_shares.specs.Shares.{AreParityShares}
use Rattle.redundancy_set.proofs.member.parity_share.Given as goal

abbrev pub invariant-loop-stripe : goal.invariant-loop-stripe
invariant-loop-stripe l = (shares : List (List ℕ)) → AreParityShares l.scheme l.stripes.len l.streams.items shares
    → l.share.items ≡ take (parity_place l.stripes.members l.stripes.parity l.i l.stripe * l.stripes.len) (slice_index_or shares l.i [])
