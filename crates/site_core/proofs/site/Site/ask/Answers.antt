use Rattle.std.proofs.Common.{List, sym, subst}
use Rattle.scr_base.specs.declared.content.Step.{Step}
use Rattle.node_device.specs.Rack.{states_of}
use Rattle.site_core.specs.Holds.{Leads}
use Rattle.site_core.proofs.Lengthened.{still_leads}
use Rattle.site_state.proofs.InOrder.{lengthened_order}
use Rattle.site_state.specs.Order.{IsInOrder}
use Rattle.site_core.proofs.site.Site.ask.Goals as goal

pub returns-clause-run : goal.returns-clause-run
returns-clause-run g c = λ first f.
    let s = c.args.self.now in
    let states = states_of g.D.Device.state s.bay in
    record {
      tells = f.tells;
      fair = f.fair;
      leads = subst (λ (p : List (List Step)). Leads first s.core p states s.history.events) (sym c.in_ok-ask.ensures.asked) (still_leads first s.core s.programs c.args.rank c.args.step states s.history.events f.leads);
    }

pub returns-clause-order : goal.returns-clause-order
returns-clause-order g c = λ order.
    let s = c.args.self.now in
    subst (λ (p : List (List Step)). IsInOrder p s.core.ranks) (sym c.in_ok-ask.ensures.asked) (lengthened_order s.programs c.args.rank c.args.step s.core.ranks order)
