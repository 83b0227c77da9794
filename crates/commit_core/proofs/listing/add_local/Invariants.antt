use Rattle.std.proofs.Common.{◌≡◌, ◌++◌}
use Rattle.std.specs.List.{flat_map}
use Rattle.scr_base.specs.Sets.{numbers_below}
use Rattle.commit_core.specs.Pieces.{pieces_of_set, set_lengths}
use Rattle.commit_core.proofs.listing.add_local.Given as goal

abbrev pub invariant-loop-group : goal.invariant-loop-group
invariant-loop-group l =
    l.pieces.items
    ≡ l.fn.pieces.items
    ++ flat_map (λ group. pieces_of_set l.sets.scheme l.local group (set_lengths l.sets.nodes l.ranks l.sets.size group l.local l.lengths)) (numbers_below l.group)
