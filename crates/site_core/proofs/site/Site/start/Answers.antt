use Rattle.std.proofs.Common.{refl, sym, subst, ap, ◌∙◌, length, List}
use Rattle.ckpt_model.specs.declared.event.Event.TheVariants as event
use Rattle.ckpt_model.specs.declared.event.Kind.TheVariants as kind
use Rattle.scr_base.specs.declared.answers.Reply.TheVariants as reply
use Rattle.node_device.specs.Rack.{states_of}
use Rattle.site_state.specs.declared.run_state.RunState.{RunState}
use Rattle.site_core.specs.Holds.{Leads}
use Rattle.site_core.proofs.Told.{appended}
use Rattle.scr_base.specs.declared.content.Step.TheVariants as step
use Rattle.site_core.proofs.Serving.{rests_closed}
use Rattle.site_core.proofs.Starting.{begins}
use Rattle.site_state.proofs.AheadCores.{by_round, clear_calls}
use Rattle.std.proofs.lemmas.List.{length-map}
use Rattle.round_core.specs.Seats.{owed}
use Rattle.site_state.specs.Order.{IsInOrder}
use Rattle.round_core.specs.declared.seat.Seat.{Seat}
use Rattle.site_state.proofs.InOrder.{owed_order}
use Rattle.site_core.proofs.site.Site.start.Goals as goal

pub returns-clause-run : goal.returns-clause-run
returns-clause-run g c = λ tells first base f.
    let s = c.args.self.now in
    let states = states_of g.D.Device.state s.bay in
    let answer = reply.Started c.in-Some.which in
    let told = appended c.push.new.self.events c.reserve.new.self.events s.history.events (event.Decided kind.Start answer) (event.Decided kind.Start answer) c.in-Ok.ensures.events c.reserve.ensures.events refl in
    let l = begins first s.core s.programs states s.history.events c.push.new.self.events c.args.name c.args.flags c.in_ok-manifest.manifest c.in-Some.which c.decide.new.self c.requires.stage c.requires.round (rests_closed first s.core s.programs states s.history.events (step.Start c.args.name c.args.flags) c.requires.stage f c.requires.round refl) (sym c.if-is_crowded.ensures) c.in-Some.ensures.which c.in_ok-manifest.ensures.opened c.in_ok-manifest.ensures.shape (c.decide.ensures.decided c.in_ok-decide.was) told f in
    subst (λ (x : RunState). Leads first x s.programs states c.push.new.self.events) (sym c.open.ensures) l

pub returns-clause-lowers : goal.returns-clause-lowers
returns-clause-lowers g c =
    let s = c.args.self.now in
    let is = ap (λ (x : RunState). x.ranks) c.open.ensures ∙ c.decide.ensures.decided c.in_ok-decide.was in
    let answer = reply.Started c.in-Some.which in
    by_round s.core c.open.new.self s.programs c.requires.stage (ap (λ (x : RunState). x.stage) c.open.ensures ∙ c.requires.stage) (ap (λ (x : RunState). x.shape) c.open.ensures) (ap length is ∙ length-map s.core.ranks (owed answer)) answer is (clear_calls s.core (step.Start c.args.name c.args.flags) c.requires.round refl)

pub returns-clause-order : goal.returns-clause-order
returns-clause-order g c = λ order.
    let s = c.args.self.now in
    subst (λ (rs : List Seat). IsInOrder s.programs rs) (sym (ap (λ (x : RunState). x.ranks) c.open.ensures ∙ c.decide.ensures.decided c.in_ok-decide.was)) (owed_order s.programs s.core.ranks (reply.Started c.in-Some.which) order)
