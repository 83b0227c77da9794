use Rattle.std.proofs.Common.{refl, ◌+◌, sym, subst, map}
use Rattle.scr_base.specs.declared.answers.Reply.{Reply}
use Rattle.scr_base.specs.declared.content.Step.TheVariants as step
use Rattle.ckpt_model.specs.Runs.{StepsTo}
use Rattle.ckpt_model.specs.declared.event.Event.TheVariants as event
use Rattle.ckpt_model.specs.declared.event.Kind.TheVariants as kind
use Rattle.node_device.specs.Rack.{states_of}
use Rattle.round_core.specs.Seats.{owed}
use Rattle.site_state.specs.Shown.{running, setup_of, decided}
use Rattle.site_core.proofs.Serving.{output_of}
use Rattle.site_state.proofs.Rounds.{needed}
use Rattle.site_state.proofs.AheadCores.{clear_calls}
use Rattle.site_core.proofs.site.Site.need.Goals as goal

pub tell_round-requires-clause-steps : goal.tell_round-requires-clause-steps
tell_round-requires-clause-steps g c = λ first f.
    let s = c.args.self.now in
    let core = s.core in
    let round = c.requires.round in (
      output_of first core s.programs (states_of g.D.Device.state s.bay) s.history.events c.requires.stage f,
      λ bytes. subst (λ (a : Reply). StepsTo (setup_of core) (running bytes core) (event.Decided kind.Need a) (running bytes (decided core core.phase core.offer (core.needs + 1) (map (owed a) core.ranks)))) (sym c.yes_if-answer.ensures)
          (needed core bytes c.in-Some.now c.is_needed.result round.complete round.first round.clear c.in-Some.is c.is_needed.ensures),
    )

pub tell_round-requires-clause-calls : goal.tell_round-requires-clause-calls
tell_round-requires-clause-calls g c = clear_calls c.args.self.now.core step.Need c.requires.round refl
