use Rattle.std.proofs.Common.{arith}
use Rattle.partner_copy.proofs.Neighbours.{originals}
use Rattle.partner_copy.proofs.rebuild.Goals as goal

pub returns-clause-originals : goal.returns-clause-originals
returns-clause-originals c = λ streams m.
    originals streams c.loop-i.streams.items c.args.members.now.items m (omega arith) (λ i h. c.in_default.ensures.none i (omega arith)) (λ i h. c.loop-i.invariant.each i (omega arith))
