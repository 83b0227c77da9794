use Rattle.node_device.specs.Rack.{states_of}
use Rattle.site_state.proofs.AheadCores.{told_lower}
use Rattle.site_core.proofs.Times.{told_time}
use Rattle.site_state.proofs.Times.{asking, unread}
use Rattle.site_core.proofs.site.Site.tell_time.Goals as goal

pub returns-clause-run : goal.returns-clause-run
returns-clause-run g c = λ first f.
    let s = c.args.self.now in
    record {
      tells = f.tells;
      fair = f.fair;
      leads = told_time first s.core s.programs (states_of g.D.Device.state s.bay) s.history.events c.push.new.history.events c.args.now c.requires c.in_ok-push.ensures.events f.leads;
    }

pub returns-clause-lowers : goal.returns-clause-lowers
returns-clause-lowers g c =
    let s = c.args.self.now in
    let a = asking s.core c.requires in
    told_lower s.core s.programs c.args.now a.at (unread s.core.reading a.none)
