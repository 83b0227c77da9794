use Rattle.std.proofs.Common.{◌∙◌}
use Rattle.node_device.specs.Rack.{states_of}
use Rattle.site_state.proofs.Gates.{refuses}
use Rattle.site_core.proofs.Serving.{output_of}
use Rattle.site_state.proofs.Rounds.{verdict_is}
use Rattle.site_state.proofs.AheadCores.{refused_calls}
use Rattle.site_core.proofs.site.Site.refuse.Goals as goal

pub tell_round-requires-clause-steps : goal.tell_round-requires-clause-steps
tell_round-requires-clause-steps g c = λ first f.
    let s = c.args.self.now in
    let core = s.core in
    let round = c.requires.round in
    (output_of first core s.programs (states_of g.D.Device.state s.bay) s.history.events c.requires.stage f, λ bytes. refuses core bytes c.in-Some.kind c.args.refusal c.args.call.now round.complete round.first c.in-Some.ensures (verdict_is core bytes c.args.call.now round.first ∙ round.verdict) round.no_fault)

pub tell_round-requires-clause-calls : goal.tell_round-requires-clause-calls
tell_round-requires-clause-calls g c = refused_calls c.args.self.now.core c.args.call.now c.args.refusal c.requires.round
