use Rattle.std.proofs.Common.{◌≡◌, ◌++◌}
use Rattle.std.specs.List.{flat_map}
use Rattle.scr_base.specs.Sets.{numbers_below}
use Rattle.commit_core.specs.Pieces.{pieces_of_member}
use Rattle.commit_core.proofs.listing.add_set.Given as goal

abbrev pub invariant-loop-target : goal.invariant-loop-target
invariant-loop-target l = l.pieces.items ≡ l.fn.pieces.items ++ flat_map (pieces_of_member l.scheme l.local l.group l.lengths) (numbers_below l.target)
