use Rattle.std.proofs.Common.{length, sym, ap, ◌∙◌, arith}
use Rattle.scr_base.specs.Sets.{group_count, bears_members, lost_members}
use Rattle.process_sets.specs.Group.{members_of}
use Rattle.process_sets.proofs.Groups.{all_numbers, not_all_numbers}
use Rattle.process_sets.proofs.Sets.bears.Goals as goal

pub returns-then-not-group_bears : goal.returns-then-not-group_bears
returns-then-not-group_bears c =
    let nodes = c.args.self.now.nodes in
    let groups = group_count nodes c.args.self.now.size in
    let lost = c.args.lost.now.items in
    let scheme = c.args.self.now.scheme in
    sym (not_all_numbers (λ group. bears_members scheme (length (members_of nodes groups group)) (lost_members (members_of nodes groups group) lost)) groups c.loop-group.group
    (omega (arith, c.groups_of-groups.ensures))
    (ap (λ g. bears_members scheme (length (members_of nodes g c.loop-group.group)) (lost_members (members_of nodes g c.loop-group.group) lost)) (sym c.groups_of-groups.ensures)
    ∙ sym c.group_bears.ensures ∙ c.if-not-group_bears.true))

pub returns : goal.returns
returns c =
    let nodes = c.args.self.now.nodes in
    let groups = group_count nodes c.args.self.now.size in
    let lost = c.args.lost.now.items in
    let scheme = c.args.self.now.scheme in
    sym (all_numbers (λ group. bears_members scheme (length (members_of nodes groups group)) (lost_members (members_of nodes groups group) lost)) groups
    (λ i h.
    ap (λ g. bears_members scheme (length (members_of nodes g i)) (lost_members (members_of nodes g i) lost)) (sym c.groups_of-groups.ensures)
    ∙ c.loop-group.invariant i (omega (arith, c.groups_of-groups.ensures))))
