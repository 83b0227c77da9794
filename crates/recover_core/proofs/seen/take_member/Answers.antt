use Rattle.std.proofs.Common.{inl, inr, false, sym, subst, ap, ◌∙◌, List, Bool}
use Rattle.recover_core.specs.Seen.{AreRising, marked}
use Rattle.recover_core.specs.declared.seen.SeenSet.{SeenSet}
use Rattle.recover_core.proofs.Taking.{marks_at, puts_at}
use Rattle.recover_core.proofs.seen.take_member.Goals as goal

pub returns-then-is_there : goal.returns-then-is_there
returns-then-is_there c = λ rising. (
  (λ not. absurd (cc (not, c.if-not-member.false))),
  (λ whole. inl (marks_at c.args.member c.args.sets.now.items c.deref-2.result.now c.place_of-place.result c.is_there.result c.is_there.ensures c.if-is_there.true c.deref-2.ensures.value c.index_mut.result.now c.mark.new.self c.index_mut.ensures.value c.mark.ensures)),
)

pub returns : goal.returns
returns c = λ rising. (
  (λ not. absurd (cc (not, c.if-not-member.false))),
  (λ whole. inr (puts_at c.args.nodes c.args.member c.args.sets.now.items c.deref-2.result.now c.deref.result.now c.insert.new.self.items c.place_of-place.result c.is_there.result c.is_there.ensures c.if-is_there.false c.deref-2.ensures.value
      (c.place_of-place.ensures.place (subst AreRising (sym c.deref.ensures.value) rising)) c.deref.ensures.value c.mark-2.new.self
      (c.mark-2.ensures ∙ ap (λ (t : List Bool). marked c.args.member (let x : SeenSet = record { desc = c.args.member.desc; files = c.args.member.files; there = t; sealed = false } in x)) c.in_ok-none.ensures) c.in_ok-insert.ensures.items)),
)
