use Rattle.std.proofs.Common.{sym}
use Rattle.process_sets.proofs.Groups.{members_spread}
use Rattle.process_sets.proofs.count_of.Goals as goal

pub returns-then-group-nodes : goal.returns-then-group-nodes
returns-then-group-nodes c = sym ((members_spread c.args.nodes c.args.groups c.args.group c.requires.within).above c.if-group-nodes.true)

pub returns-else-group-nodes : goal.returns-else-group-nodes
returns-else-group-nodes c = sym ((members_spread c.args.nodes c.args.groups c.args.group c.requires.within).below c.if-group-nodes.false)
