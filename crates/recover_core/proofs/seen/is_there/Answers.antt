use Rattle.recover_core.proofs.Places.{there_by, past_end}
use Rattle.recover_core.proofs.seen.is_there.Goals as goal

pub returns-then-place-sets : goal.returns-then-place-sets
returns-then-place-sets c = there_by c.args.sets.now c.args.place c.args.which c.index-sets-place.result c.eq.result c.if-place-sets.true c.eq.ensures

pub returns-else-place-sets : goal.returns-else-place-sets
returns-else-place-sets c = past_end c.args.sets.now c.args.place c.args.which c.if-place-sets.false
