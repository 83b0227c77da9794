use Rattle.std.proofs.Common.{sym, ◌∙◌}
use Rattle.prefix_index.proofs.FlushedIds.{last_flushed, last_failed, last_of_all, no_last_yet}
use Rattle.prefix_index.proofs.marks.last_flushed.Goals.{then-not-entry, else-not-entry}
use Rattle.prefix_index.proofs.marks.last_flushed.Goals as goal

pub loop-entry-init : goal.loop-entry-init
loop-entry-init c = sym (no_last_yet c.args.entries.now)

pub loop-entry-preserved : goal.loop-entry-preserved
loop-entry-preserved c = elim c.if-not-entry.branch [
  | then-not-entry w ↦ w.last-is ∙ sym w.later.ensures ∙ last_flushed c.args.entries.now c.loop-entry.entry-index c.entry-item.result c.loop-entry-test.true c.entry-item.is c.loop-entry.last w.if-not-entry.true c.loop-entry.invariant
  | else-not-entry w ↦ w.last-is ∙ last_failed c.args.entries.now c.loop-entry.entry-index c.entry-item.result c.loop-entry-test.true c.entry-item.is c.loop-entry.last w.if-not-entry.false c.loop-entry.invariant
]

pub returns : goal.returns
returns c = last_of_all c.args.entries.now c.loop-entry.entry-index c.loop-entry.last c.loop-entry-test.false c.loop-entry.invariant
