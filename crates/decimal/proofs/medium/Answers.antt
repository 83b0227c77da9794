use Rattle.std.proofs.Common.{◌^◌, lit≤, arith}
use Rattle.std.proofs.lemmas.Grind.{common_steps}
use Rattle.decimal.specs.Numbers.{number_below}
use Rattle.decimal.proofs.Laws.{below_says}
use Rattle.decimal.proofs.medium.Goals as goal

pub returns-clause-number : goal.returns-clause-number
unfolding number_below
returns-clause-number c = grind (arith, common_steps)

pub returns-clause-spelled : goal.returns-clause-spelled
returns-clause-spelled c = below_says (2 ^ 32) c.args.digits.now c.ok.result (returns-clause-number c) (lit≤ tt)
