use Rattle.std.proofs.Common.{length, sym, ap, ◌∙◌}
use Rattle.scr_base.specs.Sets.{bears_members, lost_members}
use Rattle.process_sets.specs.Group.{members_of}
use Rattle.process_sets.proofs.Groups.{neighbours}
use Rattle.process_sets.proofs.group_bears.Goals as goal

pub returns-in-Partner : goal.returns-in-Partner
returns-in-Partner c =
    let members = members_of c.args.nodes c.args.groups c.args.group in
    c.bears_neighbours.ensures ∙ sym (neighbours members c.args.lost.now.items)
    ∙ ap (λ scheme. bears_members scheme (length members) (lost_members members c.args.lost.now.items)) (sym c.in-Partner.is)
