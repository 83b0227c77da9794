use Rattle.std.proofs.Common.{◌≡◌, inl, inr, ◌+◌, ◌%◌, ◌&&◌, not, length, sym, ap, ◌∙◌, arith}
use Rattle.std.proofs.lemmas.Bool.{cases_lt}
use Rattle.process_sets.specs.Group.{members_of, is_lost}
use Rattle.process_sets.proofs.Groups.{all_numbers, not_all_numbers}
use Rattle.process_sets.proofs.bears_neighbours.Goals as goal

pub returns-then-pair_lost : goal.returns-then-pair_lost
returns-then-pair_lost c =
    let members = members_of c.args.nodes c.args.groups c.args.group in
    let lost = c.args.lost.now.items in
    sym (not_all_numbers (λ k. not (is_lost members lost k && is_lost members lost ((k + 1) % length members))) (length members) c.loop-member.member (omega arith)
    (ap not (sym c.pair_lost.ensures ∙ c.if-pair_lost.true)))

pub returns : goal.returns
returns c =
    let members = members_of c.args.nodes c.args.groups c.args.group in
    let lost = c.args.lost.now.items in
    sym (all_numbers (λ k. not (is_lost members lost k && is_lost members lost ((k + 1) % length members))) (length members) (λ k h. c.loop-member.invariant k (omega arith)))

pub loop-member-preserved : goal.loop-member-preserved
loop-member-preserved c = λ k h.
    let members = members_of c.args.nodes c.args.groups c.args.group in
    let lost = c.args.lost.now.items in
    elim (cases_lt k c.loop-member.member) [
      | inl low ↦ c.loop-member.invariant k low
      | inr high ↦
          let e : k ≡ c.loop-member.member = omega arith in
          ap (λ i. not (is_lost members lost i && is_lost members lost ((i + 1) % length members))) e ∙ ap not (sym c.pair_lost.ensures ∙ c.if-pair_lost.false)
    ]
