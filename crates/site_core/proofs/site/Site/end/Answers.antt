use Rattle.std.proofs.Common.{sym, ap}
use Rattle.node_device.specs.Rack.{states_of}
use Rattle.site_core.proofs.Ending.{ended}
use Rattle.site_core.proofs.Turns.{lawful}
use Rattle.site_state.proofs.AheadCores.{stop_lower}
use Rattle.site_state.specs.Waiting.{is_over}
use Rattle.site_core.proofs.site.Site.end.Goals as goal

pub returns-clause-run : goal.returns-clause-run
returns-clause-run g c = λ tells first base f.
    let s = c.args.self.now in
    ended first s.core s.programs (states_of g.D.Device.state s.bay) s.history.events c.push.new.history.events (lawful g.D.Device.state base.sound s.bay) base.fair c.requires.stage f c.requires.round.complete (sym c.if-not-all_ended.ensures) c.in_ok-push.ensures.events

pub returns-clause-lowers : goal.returns-clause-lowers
returns-clause-lowers g c = stop_lower c.args.self.now.core c.args.self.now.programs (ap is_over c.requires.stage)
