use Rattle.std.proofs.Common.{sym, arith}
use Rattle.process_sets.proofs.Groups.{members_spread, node_fits}
use Rattle.process_sets.proofs.node_of.Goals as goal

pub overflow_mul-result : goal.overflow_mul-result
overflow_mul-result c = omega (arith, node_fits c.args.nodes c.args.groups c.args.group c.args.member c.requires.few c.requires.group_within c.requires.member_within)

pub overflow_add-result : goal.overflow_add-result
overflow_add-result c = omega (arith, node_fits c.args.nodes c.args.groups c.args.group c.args.member c.requires.few c.requires.group_within c.requires.member_within)

pub returns : goal.returns
returns c = sym ((members_spread c.args.nodes c.args.groups c.args.group c.requires.group_within).at c.args.member c.requires.member_within)
