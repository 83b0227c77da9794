use Rattle.std.proofs.Common.{◌≡◌}
use Rattle.std.specs.List.{flat_map}
use Rattle.scr_base.specs.Sets.{numbers_below}
use Rattle.commit_core.specs.Pieces.{pieces_of_local}
use Rattle.commit_core.proofs.listing.pieces_of.Given as goal

abbrev pub invariant-loop-local : goal.invariant-loop-local
invariant-loop-local l = l.pieces.items ≡ flat_map (pieces_of_local l.sets.scheme l.sets.nodes l.ranks l.sets.size l.lengths) (numbers_below l.local)
