use Rattle.std.proofs.Common.{arith}
use Rattle.xor_segments.proofs.Sums.{sum_below_all}
use Rattle.xor_segments.proofs.parity.Goals as goal

pub returns : goal.returns
returns c = λ b h. sum_below_all c.args.stripe.now.items b c.loop-i.i _ (c.loop-i.invariant b (omega arith)) (omega arith)
