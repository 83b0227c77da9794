use Rattle.node_device.specs.Rack.{states_of}
use Rattle.site_core.proofs.RunsOut.{numbers_over}
use Rattle.site_core.proofs.Turns.{lawful}
use Rattle.site_state.proofs.AheadCores.{stop_lower}
use Rattle.std.proofs.Common.{ap}
use Rattle.site_state.specs.Waiting.{is_over}
use Rattle.site_core.proofs.site.Site.run_out_of_numbers.Goals as goal

pub returns-clause-run : goal.returns-clause-run
returns-clause-run g c = λ tells first base f.
    let s = c.args.self.now in
    numbers_over first s.core s.programs (states_of g.D.Device.state s.bay) s.history.events c.push.new.history.events (lawful g.D.Device.state base.sound s.bay) base.fair c.requires.stage (c.requires.last tells) c.in_ok-push.ensures.events f

pub returns-clause-lowers : goal.returns-clause-lowers
returns-clause-lowers g c = stop_lower c.args.self.now.core c.args.self.now.programs (ap is_over c.requires.stage)
