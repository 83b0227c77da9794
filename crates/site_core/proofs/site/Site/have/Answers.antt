use Rattle.std.proofs.Common.{◌≡◌, ◌∙◌, sym, ap, refl, subst, List, ℕ, map}
use Rattle.scr_base.specs.declared.answers.Phase.TheVariants as phase
use Rattle.scr_base.specs.declared.answers.Reply.TheVariants as reply
use Rattle.scr_base.specs.declared.content.Step.TheVariants as step
use Rattle.ckpt_model.specs.Runs.{StepsTo}
use Rattle.ckpt_model.specs.declared.event.Event.TheVariants as event
use Rattle.ckpt_model.specs.declared.event.Kind.TheVariants as kind
use Rattle.node_device.specs.Rack.{states_of}
use Rattle.round_core.specs.Seats.{owed}
use Rattle.site_state.specs.Shown.{running, setup_of, decided}
use Rattle.site_state.proofs.Rounds.{offered, offered_none}
use Rattle.site_state.proofs.Serving.{closed_phase}
use Rattle.site_core.proofs.Serving.{rests_closed}
use Rattle.site_state.proofs.AheadCores.{clear_calls}
use Rattle.site_core.proofs.site.Site.have.Goals as goal

pub tell_round-requires-clause-steps : goal.tell_round-requires-clause-steps
tell_round-requires-clause-steps g c = λ first f.
    let s = c.args.self.now in
    let core = s.core in
    let round = c.requires.round in
    let m = c.in-Some.best.now in (
      closed_phase core phase.Offered (rests_closed first core s.programs (states_of g.D.Device.state s.bay) s.history.events step.Have c.requires.stage f round refl),
      λ bytes. subst (λ (n : List ℕ). StepsTo (setup_of core) (running bytes core) (event.Decided kind.Have (reply.Offer m.desc.which n)) (running bytes (decided core phase.Offered (Rattle.std.proofs.Common.Some m.desc.which) core.needs (map (owed (reply.Offer m.desc.which n)) core.ranks))))
          (sym c.in_ok-name-in-Some.ensures) (offered core bytes m round.complete round.first round.clear (sym c.in-Some.ensures)),
    )

pub tell_round-requires-in-None-clause-steps : goal.tell_round-requires-in-None-clause-steps
tell_round-requires-in-None-clause-steps g c = λ first f.
    let s = c.args.self.now in
    let round = c.requires.round in (
      closed_phase s.core phase.Idle (rests_closed first s.core s.programs (states_of g.D.Device.state s.bay) s.history.events step.Have c.requires.stage f round refl),
      λ bytes. offered_none s.core bytes round.complete round.first round.clear (sym c.in-None.ensures),
    )

pub tell_round-requires-clause-calls : goal.tell_round-requires-clause-calls
tell_round-requires-clause-calls g c = clear_calls c.args.self.now.core step.Have c.requires.round refl

pub tell_round-requires-in-None-clause-calls : goal.tell_round-requires-in-None-clause-calls
tell_round-requires-in-None-clause-calls g c = clear_calls c.args.self.now.core step.Have c.requires.round refl
