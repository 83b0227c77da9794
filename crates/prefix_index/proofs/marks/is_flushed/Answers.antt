use Rattle.prefix_index.proofs.FlushedIds.{found_this, none_so_far, none_of_all, nothing_yet}
use Rattle.prefix_index.proofs.marks.is_flushed.Goals as goal

pub loop-entry-init : goal.loop-entry-init
loop-entry-init c = nothing_yet c.args.entries.now c.args.which

pub loop-entry-preserved : goal.loop-entry-preserved
loop-entry-preserved c = none_so_far c.args.entries.now c.loop-entry.entry-index c.entry-item.result c.args.which c.is_flushed_as.result c.loop-entry-test.true c.entry-item.is c.is_flushed_as.ensures c.if-is_flushed_as.false c.loop-entry.invariant

pub returns-then-is_flushed_as : goal.returns-then-is_flushed_as
returns-then-is_flushed_as c = found_this c.args.entries.now c.loop-entry.entry-index c.entry-item.result c.args.which c.is_flushed_as.result c.loop-entry-test.true c.entry-item.is c.is_flushed_as.ensures c.if-is_flushed_as.true

pub returns : goal.returns
returns c = none_of_all c.args.entries.now c.loop-entry.entry-index c.args.which c.loop-entry-test.false c.loop-entry.invariant
