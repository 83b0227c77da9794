use Rattle.std.proofs.Common.{rules}
use Rattle.recover_core.proofs.marks.Marks.lost.Goals.{then-not-has+in_ok-push, else-not-has}
use Rattle.recover_core.proofs.Numbers.{chosen_more, chosen_same}
use Rattle.recover_core.proofs.marks.Marks.lost.Goals as goal

pub loop-node-preserved : goal.loop-node-preserved
loop-node-preserved c = elim c.if-not-has.branch [
  | then-not-has+in_ok-push w ↦ chosen_more c.args.self.now c.loop-node.node c.loop-node.lost.items c.if-not-has.lost.items (search rules) c.loop-node.invariant (search rules)
  | else-not-has w ↦ chosen_same c.args.self.now c.loop-node.node c.loop-node.lost.items c.if-not-has.lost.items (search rules) c.loop-node.invariant (search rules)
]
