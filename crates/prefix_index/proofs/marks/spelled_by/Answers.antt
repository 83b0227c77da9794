use Rattle.prefix_index.proofs.MarkReads.{mark_read}
use Rattle.prefix_index.proofs.marks.spelled_by.Goals as goal

pub returns-in-Ok : goal.returns-in-Ok
returns-in-Ok c = mark_read c.args.payload.now c.in-Ok.tree c.told_by.result c.in-Ok.ensures.exact c.in-Ok.ensures.found c.told_by.ensures.told c.told_by.ensures.small c.told_by.ensures.none
