use Rattle.std.proofs.Common.{◌≡◌, ◌+◌, ◌*◌, ◌<◌, ◌≤◌, ℕ, length, slice_index, sym, ap, subst, ◌∙◌, arith}
use Rattle.scr_base.specs.Sets.{group_count, nodes_of_group}
use Rattle.process_sets.proofs.Groups.{members_spread, member_below, node_fits}
use Rattle.commit_core.specs.declared.set.CommitSet.{CommitSet}
use Rattle.commit_core.proofs.set.CommitSet.node_of.Goals as goal

-- the node is small, and it is the member's
fits : (set : CommitSet) (groups group member : ℕ) → groups ≡ group_count set.desc.nodes set.desc.size → set.desc.nodes ≤ 16 → group < group_count set.desc.nodes set.desc.size → member < length (nodes_of_group set.desc.nodes set.desc.size group) → group + member * groups < 16
fits set groups group member is few g m = subst (λ (k : ℕ). group + member * k < 16) (sym is) (node_fits set.desc.nodes (group_count set.desc.nodes set.desc.size) group member few g m)

there : (set : CommitSet) (groups group member : ℕ) → groups ≡ group_count set.desc.nodes set.desc.size → group < group_count set.desc.nodes set.desc.size → member < length (nodes_of_group set.desc.nodes set.desc.size group) → group + member * groups ≡ slice_index (nodes_of_group set.desc.nodes set.desc.size group) member
there set groups group member is g m = ap (λ (k : ℕ). group + member * k) is ∙ sym ((members_spread set.desc.nodes (group_count set.desc.nodes set.desc.size) group g).at member m)

groups_are : (set : CommitSet) (nodes size groups : ℕ) → groups ≡ group_count nodes size → nodes ≡ set.desc.nodes → size ≡ set.desc.size → groups ≡ group_count set.desc.nodes set.desc.size
groups_are set nodes size groups is n z = is ∙ ap (λ (k : ℕ). group_count k size) n ∙ ap (λ (k : ℕ). group_count set.desc.nodes k) z

pub overflow_mul-result : goal.overflow_mul-result
overflow_mul-result c =
    let set = c.args.self.now in
    let groups = groups_are set c.sets.result.nodes c.sets.result.size c.groups_of.result c.groups_of.ensures c.sets.ensures.nodes c.sets.ensures.size in
    omega (arith, fits set c.groups_of.result c.args.group c.args.member groups (omega (arith, c.sets.result.few, c.sets.ensures.nodes)) c.requires.group c.requires.member)

pub overflow_add-result : goal.overflow_add-result
overflow_add-result c =
    let set = c.args.self.now in
    let groups = groups_are set c.sets.result.nodes c.sets.result.size c.groups_of.result c.groups_of.ensures c.sets.ensures.nodes c.sets.ensures.size in
    omega (arith, fits set c.groups_of.result c.args.group c.args.member groups (omega (arith, c.sets.result.few, c.sets.ensures.nodes)) c.requires.group c.requires.member)

pub returns-clause-is : goal.returns-clause-is
returns-clause-is c =
    let set = c.args.self.now in
    let groups = groups_are set c.sets.result.nodes c.sets.result.size c.groups_of.result c.groups_of.ensures c.sets.ensures.nodes c.sets.ensures.size in
    there set c.groups_of.result c.args.group c.args.member groups c.requires.group c.requires.member

pub returns-clause-small : goal.returns-clause-small
returns-clause-small c =
    let set = c.args.self.now in
    let groups = groups_are set c.sets.result.nodes c.sets.result.size c.groups_of.result c.groups_of.ensures c.sets.ensures.nodes c.sets.ensures.size in
    omega (arith, there set c.groups_of.result c.args.group c.args.member groups c.requires.group c.requires.member, member_below set.desc.nodes (group_count set.desc.nodes set.desc.size) c.args.group c.args.member c.requires.member)
