use Rattle.node_device.specs.Rack.{states_of}
use Rattle.site_core.proofs.Closing.{closed}
use Rattle.site_core.proofs.Halting.{under_way, not_stopped}
use Rattle.site_core.proofs.Turns.{lawful}
use Rattle.site_core.proofs.site.Site.close.Goals as goal

pub returns-clause-closed : goal.returns-clause-closed
returns-clause-closed g c = λ first f over. closed first c.args.self.core c.args.self.programs (states_of g.D.Device.state c.args.self.bay) c.args.self.history.events over f.leads

pub returns-clause-under_way : goal.returns-clause-under_way
returns-clause-under_way g c = λ first f on.
    let s = c.args.self in
    let state = g.D.Device.state in
    under_way first s.core s.programs (states_of state s.bay) s.history.events (lawful state g.met.D.Device.sound s.bay) f.fair (not_stopped s.core.stage on) f.leads
