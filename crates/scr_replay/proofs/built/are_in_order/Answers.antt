use Rattle.std.proofs.Common.{sym, arith}
use Rattle.scr_replay.proofs.Orders.{in_order, too_many, out_of_order}
use Rattle.scr_replay.proofs.built.are_in_order.Goals as goal

pub returns-then-places-nodes : goal.returns-then-places-nodes
returns-then-places-nodes c = sym (too_many c.args.places.now c.args.nodes c.if-places-nodes.true)

pub returns-then-places-i : goal.returns-then-places-i
returns-then-places-i c = sym (out_of_order c.args.places.now c.args.nodes c.loop-i.i (omega arith) c.if-places-i.true)

pub returns : goal.returns
returns c = sym (in_order c.args.places.now c.args.nodes c.if-places-nodes.false (λ k within. c.loop-i.invariant k (omega arith)))
