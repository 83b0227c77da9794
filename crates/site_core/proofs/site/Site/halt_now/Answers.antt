use Rattle.node_device.specs.Rack.{states_of}
use Rattle.site_state.specs.Waiting.{is_over}
use Rattle.site_core.proofs.Halting.{halts, not_over}
use Rattle.site_core.proofs.Turns.{lawful}
use Rattle.site_core.proofs.site.Site.halt_now.Goals as goal

pub returns-clause-run : goal.returns-clause-run
returns-clause-run g c = λ first f.
    let s = c.args.self.now in
    let state = g.D.Device.state in
    record {
      tells = f.tells;
      fair = f.fair;
      leads = halts first s.core s.programs (states_of state s.bay) s.history.events c.push.new.self.events (lawful state g.met.D.Device.sound s.bay) f.fair (not_over c.stopped.result (is_over s.core.stage) c.stopped.ensures c.if-stopped.false) c.in-Ok.ensures.events f.leads;
    }
