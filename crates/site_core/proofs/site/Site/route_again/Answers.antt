use Rattle.std.proofs.Common.{List, ℕ, ap, ◌∙◌}
use Rattle.filemap.specs.Rows.{place_of}
use Rattle.node_device.specs.Rack.{states_of}
use Rattle.site_state.specs.Choosing.{rows_at}
use Rattle.site_core.proofs.LocalSteps.{may_route_again}
use Rattle.site_core.proofs.Serving.{none_open}
use Rattle.site_core.proofs.site.Site.route_again.Goals as goal

pub tell_local-requires-clause-steps : goal.tell_local-requires-clause-steps
tell_local-requires-clause-steps g c = λ tells first follows seat here.
    let s = c.args.self.now in
    may_route_again first s.core s.programs (states_of g.D.Device.state s.bay) s.history.events c.args.rank c.number_of-file.result c.args.word c.in-Some.spot c.in_ok-part.part seat
    c.requires.stage c.requires.next c.requires.clear c.requires.there c.in-Some.ensures (c.number_of-file.ensures.number ∙ ap (λ (w : List ℕ). place_of (rows_at s.core c.args.rank) w) c.bytes.ensures.value)
    c.in_ok-part.ensures (λ restart. none_open first s.core s.programs (states_of g.D.Device.state s.bay) s.history.events c.requires.stage follows (λ output. absurd (cc (restart, output)))) follows here
