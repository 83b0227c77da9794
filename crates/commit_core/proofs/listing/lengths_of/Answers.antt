use Rattle.std.proofs.Common.{◌≡◌, ℕ, ◌+◌, ◌*◌, ◌++◌, ◌∷◌, [], length, map, take, slice_index, refl, subst, sym, ap, ◌∙◌, arith}
use Rattle.std.proofs.lemmas.List.{length_push}
use Rattle.std.proofs.lemmas.Grind.{common_steps}
use Rattle.scr_base.specs.Sets.{group_count, ranks_of_set}
use Rattle.redundancy_set.proofs.Joined.{next_place}
use Rattle.commit_core.proofs.SetLengths.{member_more, lengths_more, all_members, all_lengths}
use Rattle.commit_core.proofs.listing.lengths_of.Goals as goal

pub loop-node-preserved : goal.loop-node-preserved
loop-node-preserved c =
    let sets = c.args.sets in
    let ranks = c.args.ranks in
    let lengths = c.args.lengths.now in
    let old = c.loop-node.own.items in
    let new = c.push.new.self.items in
    let node = c.loop-node.node in
    let i = c.loop-node.invariant in
    let more : new ≡ old ++ slice_index lengths (node * ranks + c.args.local) ∷ [] = grind (arith, common_steps) in
    let longer : length new ≡ length old + 1 = ap (length {A = ℕ}) more ∙ length_push old (slice_index lengths (node * ranks + c.args.local)) in
    let there = member_more sets.nodes ranks sets.size c.args.group c.args.local lengths c.requires.group (length old) node i.next c.loop-node-test.true in
    record {
      next = omega (arith, i.next, next_place (length old) (length new) (group_count sets.nodes sets.size) longer, c.groups_of-groups.ensures);
      within = omega (arith, there, longer);
      own = subst (λ t. new ≡ map (slice_index lengths) (take t (ranks_of_set sets.nodes ranks sets.size c.args.group c.args.local))) (sym longer)
          (lengths_more sets.nodes ranks sets.size c.args.group c.args.local lengths c.requires.group (length old) node i.next old new c.loop-node-test.true refl i.own more);
    }

pub returns : goal.returns
returns c =
    let sets = c.args.sets in
    let own = c.loop-node.own.items in
    let i = c.loop-node.invariant in
    all_lengths sets.nodes c.args.ranks sets.size c.args.group c.args.local c.args.lengths.now own
    (all_members sets.nodes c.args.ranks sets.size c.args.group c.args.local c.args.lengths.now c.requires.group (length own) c.loop-node.node i.next (omega (arith, c.loop-node-test.false)) i.within)
    i.own
