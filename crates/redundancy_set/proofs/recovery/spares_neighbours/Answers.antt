use Rattle.std.proofs.Common.{◌≡◌, inl, inr, ◌+◌, ◌%◌, ◌&&◌, not, sym, ap, ◌∙◌, arith}
use Rattle.std.proofs.lemmas.Bool.{cases_lt}
use Rattle.scr_base.specs.Sets.{is_among}
use Rattle.process_sets.proofs.Groups.{all_numbers, not_all_numbers}
use Rattle.redundancy_set.proofs.recovery.spares_neighbours.Goals as goal

pub returns-then-pair_lost : goal.returns-then-pair_lost
returns-then-pair_lost c =
    sym (not_all_numbers (λ k. not (is_among k c.args.lost.now.items && is_among ((k + 1) % c.args.members) c.args.lost.now.items)) c.args.members c.loop-i.i (omega arith)
    (ap not (sym c.pair_lost.ensures ∙ c.if-pair_lost.true)))

pub returns : goal.returns
returns c =
    sym (all_numbers (λ k. not (is_among k c.args.lost.now.items && is_among ((k + 1) % c.args.members) c.args.lost.now.items)) c.args.members
    (λ k h. c.loop-i.invariant k (omega arith)))

pub loop-i-preserved : goal.loop-i-preserved
loop-i-preserved c = λ k h.
    elim (cases_lt k c.loop-i.i) [
      | inl low ↦ c.loop-i.invariant k low
      | inr high ↦
          let e : k ≡ c.loop-i.i = omega arith in
          ap (λ t. not (is_among t c.args.lost.now.items && is_among ((t + 1) % c.args.members) c.args.lost.now.items)) e ∙ ap not (sym c.pair_lost.ensures ∙ c.if-pair_lost.false)
    ]
