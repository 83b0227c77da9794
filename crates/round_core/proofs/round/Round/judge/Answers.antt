use Rattle.std.proofs.Common.{◌∙◌, ap, Bool, not, Some, None, sym}
use Rattle.scr_base.specs.Calls.{refuse_if}
use Rattle.scr_base.specs.declared.answers.Refusal.TheVariants as refusal
use Rattle.round_core.proofs.Seating.{verdict_is}
use Rattle.round_core.proofs.round.Round.judge.Goals as goal

pub returns-in-Some : goal.returns-in-Some
returns-in-Some c = verdict_is c.args.phase c.args.self.now c.in_ok-first.first.now (Some c.in-Some.rank) c.requires c.in_ok-first.ensures c.in-Some.ensures

pub returns-then-not-phase_allows : goal.returns-then-not-phase_allows
returns-then-not-phase_allows c =
    ap (λ (b : Bool). refuse_if (not b) (refusal.Phase c.args.phase)) (sym (sym c.if-not-phase_allows.ensures))
    ∙ verdict_is c.args.phase c.args.self.now c.in_ok-first.first.now None c.requires c.in_ok-first.ensures c.in_default.ensures

pub returns : goal.returns
returns c =
    ap (λ (b : Bool). refuse_if (not b) (refusal.Phase c.args.phase)) (sym (sym c.if-not-phase_allows.ensures))
    ∙ verdict_is c.args.phase c.args.self.now c.in_ok-first.first.now None c.requires c.in_ok-first.ensures c.in_default.ensures
