use Rattle.std.proofs.Common.{◌<◌, ◌≤◌, ◌⊎◌, arith}
use Rattle.node_device.proofs.changes.scramble_range.Goals as goal

pub returns-clause-outside : goal.returns-clause-outside
returns-clause-outside c = λ j out.
    let outside : (j < c.args.at) ⊎ (c.loop-k.k ≤ j) = grind (arith, c.loop-k.invariant.reached, out) in
    c.loop-k.invariant.outside j outside
