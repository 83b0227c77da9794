use Rattle.std.proofs.Common.{ap, refl, length}
use Rattle.commit_core.specs.Pieces.{whole_piece, pieces_of_member}
use Rattle.commit_core.proofs.Listed.{segment_is, run_more}
use Rattle.commit_core.proofs.listing.add_set.Goals as goal

pub add_member-requires-clause-whole : goal.add_member-requires-clause-whole
add_member-requires-clause-whole c =
    ap (whole_piece c.args.local c.args.group c.loop-target.target)
    (segment_is c.args.scheme c.args.lengths.now c.longest_of.result (length c.args.lengths.now) c.of-stripes.result.len c.longest_of.ensures refl c.of-stripes.ensures.len)

pub loop-target-preserved : goal.loop-target-preserved
loop-target-preserved c =
    run_more (pieces_of_member c.args.scheme c.args.local c.args.group c.args.lengths.now) c.loop-target.target c.args.pieces.now.items c.loop-target.pieces.items
    c.add_member.new.pieces.items c.loop-target.invariant c.in_ok-add_member.ensures
