use Rattle.std.proofs.Common.{[]}
use Rattle.commit_core.specs.Pieces.{pieces_of_local}
use Rattle.commit_core.proofs.Listed.{run_more}
use Rattle.commit_core.proofs.listing.pieces_of.Goals as goal

pub loop-local-preserved : goal.loop-local-preserved
loop-local-preserved c =
    run_more (pieces_of_local c.args.sets.scheme c.args.sets.nodes c.args.ranks c.args.sets.size c.args.lengths.now) c.loop-local.local [] c.loop-local.pieces.items
    c.add_local.new.pieces.items c.loop-local.invariant c.in_ok-add_local.ensures
