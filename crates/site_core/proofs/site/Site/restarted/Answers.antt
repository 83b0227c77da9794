use Rattle.std.proofs.Common.{sym, refl}
use Rattle.scr_base.specs.declared.answers.Phase.TheVariants as phase
use Rattle.scr_base.specs.declared.content.Step.TheVariants as step
use Rattle.node_device.specs.Rack.{states_of}
use Rattle.site_state.proofs.Serving.{closed_phase}
use Rattle.site_core.proofs.Serving.{rests_closed}
use Rattle.site_state.proofs.Rounds.{restarted}
use Rattle.site_state.proofs.AheadCores.{clear_calls}
use Rattle.site_core.proofs.site.Site.restarted.Goals as goal

pub tell_round-requires-clause-steps : goal.tell_round-requires-clause-steps
tell_round-requires-clause-steps g c = λ first f.
    let s = c.args.self.now in
    let round = c.requires.round in
    (closed_phase s.core phase.Idle (rests_closed first s.core s.programs (states_of g.D.Device.state s.bay) s.history.events (step.Restarted c.args.valid) c.requires.stage f round refl), λ bytes. restarted c.args.self.now.core bytes c.args.valid round.complete round.first round.clear (sym c.if-not-is_valid.ensures))

pub tell_round-requires-clause-calls : goal.tell_round-requires-clause-calls
tell_round-requires-clause-calls g c = clear_calls c.args.self.now.core (step.Restarted c.args.valid) c.requires.round refl
