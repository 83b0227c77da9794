use Rattle.std.proofs.Common.{sym, refl}
use Rattle.scr_base.specs.declared.answers.Phase.TheVariants.{Idle}
use Rattle.node_device.specs.Rack.{states_of}
use Rattle.site_state.proofs.Rounds.{kept_it}
use Rattle.site_core.proofs.Serving.{at_work}
use Rattle.site_state.proofs.Serving.{closed_phase}
use Rattle.site_state.proofs.AheadCores.{clear_calls}
use Rattle.scr_base.specs.declared.content.Step.TheVariants as step
use Rattle.site_core.proofs.site.Site.kept.Goals as goal

pub tell_round-requires-clause-steps : goal.tell_round-requires-clause-steps
tell_round-requires-clause-steps g c = λ first f.
    let s = c.args.self.now in
    let round = c.requires.round.1 in
    (closed_phase s.core Idle c.requires.opened, λ bytes. kept_it s.core bytes c.requires.round.0 round.complete round.first round.clear (sym c.if-not-is_valid.ensures) c.requires.opened (at_work first s.core s.programs (states_of g.D.Device.state s.bay) s.history.events c.requires.stage f).1)

pub tell_round-requires-clause-calls : goal.tell_round-requires-clause-calls
tell_round-requires-clause-calls g c = clear_calls c.args.self.now.core (step.Complete c.requires.round.0) c.requires.round.1 refl
