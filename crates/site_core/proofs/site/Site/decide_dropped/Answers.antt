use Rattle.std.proofs.Common.{List, refl, sym, ap, ◌∙◌, subst, ◌∷◌, [], arith, ◌<◌}
use Rattle.scr_base.specs.declared.answers.Reply.{Reply}
use Rattle.ckpt_model.specs.declared.event.Event.TheVariants as event
use Rattle.ckpt_model.specs.declared.event.Kind.TheVariants as kind
use Rattle.node_device.specs.Rack.{states_of}
use Rattle.round_core.specs.declared.seat.Seat.{Seat}
use Rattle.site_state.specs.Cores.{closed_core}
use Rattle.site_core.specs.Follows.{IsCarried, carried_at}
use Rattle.site_core.specs.Holds.{Leads}
use Rattle.site_state.specs.declared.run_state.RunState.{RunState}
use Rattle.site_state.specs.declared.run_state.RunStage.{RunStage}
use Rattle.site_core.proofs.Told.{appended}
use Rattle.site_core.proofs.DroppedRounds.{dropped_decided, carries}
use Rattle.site_state.proofs.AheadCores.{closed_lower}
use Rattle.site_state.specs.Ahead.{ahead}
use Rattle.site_state.specs.Order.{IsInOrder}
use Rattle.site_state.proofs.InOrder.{owed_order}
use Rattle.site_core.proofs.site.Site.decide_dropped.Goals as goal

pub returns-clause-run : goal.returns-clause-run
returns-clause-run g c = λ tells first base f.
    let s = c.args.self.now in
    let states = states_of g.D.Device.state s.bay in
    let e = event.Decided kind.Complete c.dropped_answer-answer.result in
    let told = appended c.push.new.self.events c.reserve.new.self.events s.history.events e e c.in-Ok.ensures.events c.reserve.ensures.events refl in
    let d = dropped_decided first s.core s.programs states s.history.events c.push.new.self.events c.dropped_answer-answer.result c.requires.stage c.dropped_answer-answer.ensures told f in
    subst (λ (x : RunState). Leads first x s.programs states c.push.new.self.events) (ap (λ (ranks : List Seat). closed_core (record s.core { ranks = ranks })) (sym (c.decide.ensures.decided c.in_ok-decide.was)) ∙ sym c.close_dropped.ensures) d

pub returns-clause-told : goal.returns-clause-told
returns-clause-told g c =
    let s = c.args.self.now in
    let e = event.Decided kind.Complete c.dropped_answer-answer.result in
    let told = appended c.push.new.self.events c.reserve.new.self.events s.history.events e e c.in-Ok.ensures.events c.reserve.ensures.events refl in
    record { told = e ∷ []; few = omega arith; is = told; own = (tt, tt); caused = (subst (λ (x : RunStage). IsCarried (carried_at x s.core.refusal) c.dropped_answer-answer.result) (sym c.requires.stage) (subst (λ (a : Reply). IsCarried s.core.refusal a) (sym c.dropped_answer-answer.ensures) (carries s.core.refusal)), tt) }

pub returns-clause-lowers : goal.returns-clause-lowers
returns-clause-lowers g c =
    let s = c.args.self.now in
    subst (λ (x : RunState). ahead x s.programs < ahead s.core s.programs) (ap (λ (ranks : List Seat). closed_core (record s.core { ranks = ranks })) (sym (c.decide.ensures.decided c.in_ok-decide.was)) ∙ sym c.close_dropped.ensures) (closed_lower s.core s.programs c.dropped_answer-answer.result c.requires.stage)

pub returns-clause-order : goal.returns-clause-order
returns-clause-order g c = λ order.
    let s = c.args.self.now in
    subst (λ (rs : List Seat). IsInOrder s.programs rs) (sym (ap (λ (x : RunState). x.ranks) c.close_dropped.ensures ∙ c.decide.ensures.decided c.in_ok-decide.was)) (owed_order s.programs s.core.ranks c.dropped_answer-answer.result order)
