use Rattle.std.proofs.Common.{arith}
use Rattle.scr_base.specs.Sets.{group_count}
use Rattle.process_sets.proofs.Groups.{place_within, place_there}
use Rattle.process_sets.proofs.Sets.place_of.Goals as goal

pub returns-clause-within : goal.returns-clause-within
returns-clause-within c =
    rw c.groups_of.ensures (place_within c.args.self.now.nodes (group_count c.args.self.now.nodes c.args.self.now.size) c.args.node (omega arith) c.requires)

pub returns-clause-there : goal.returns-clause-there
returns-clause-there c =
    rw c.groups_of.ensures (place_there c.args.self.now.nodes (group_count c.args.self.now.nodes c.args.self.now.size) c.args.node (omega arith) c.requires)
