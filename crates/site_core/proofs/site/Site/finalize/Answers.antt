use Rattle.std.proofs.Common.{sym, refl}
use Rattle.scr_base.specs.declared.answers.Phase.TheVariants as phase
use Rattle.scr_base.specs.declared.content.Step.TheVariants as step
use Rattle.node_device.specs.Rack.{states_of}
use Rattle.site_state.proofs.Serving.{closed_phase}
use Rattle.site_core.proofs.Serving.{rests_closed}
use Rattle.site_state.proofs.Rounds.{finalized}
use Rattle.site_state.proofs.AheadCores.{clear_calls}
use Rattle.site_core.proofs.site.Site.finalize.Goals as goal

pub tell_round-requires-clause-steps : goal.tell_round-requires-clause-steps
tell_round-requires-clause-steps g c = λ first f.
    let s = c.args.self.now in
    let round = c.requires.round in (
      closed_phase s.core phase.Final (rests_closed first s.core s.programs (states_of g.D.Device.state s.bay) s.history.events step.Finalize c.requires.stage f round refl),
      λ bytes. finalized s.core bytes round.complete round.first round.clear (sym c.in-None.ensures),
    )

pub tell_round-requires-clause-calls : goal.tell_round-requires-clause-calls
tell_round-requires-clause-calls g c = clear_calls c.args.self.now.core step.Finalize c.requires.round refl
