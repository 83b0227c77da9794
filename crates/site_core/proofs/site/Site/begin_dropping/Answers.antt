use Rattle.std.proofs.Common.{Option, IfSome, sym, subst, None, ◌<◌, List, ap}
use Rattle.scr_base.specs.declared.shape.DataId.{DataId}
use Rattle.node_device.specs.Rack.{states_of}
use Rattle.site_core.specs.Holds.{Leads}
use Rattle.site_state.specs.Asked.{IsDropRound}
use Rattle.site_state.specs.declared.run_state.RunState.{RunState}
use Rattle.site_core.proofs.Removing.{dropping_begins}
use Rattle.site_state.proofs.AheadCores.{dropping_lower, open_over}
use Rattle.site_state.specs.Ahead.{ahead}
use Rattle.site_state.specs.Order.{IsInOrder}
use Rattle.round_core.specs.declared.seat.Seat.{Seat}
use Rattle.site_core.proofs.site.Site.begin_dropping.Goals as goal

pub returns-clause-run : goal.returns-clause-run
returns-clause-run g c = λ tells first base f.
    let s = c.args.self.now in
    let states = states_of g.D.Device.state s.bay in
    subst (λ (x : RunState). Leads first x s.programs states s.history.events) (sym c.begin_dropping.ensures)
    (dropping_begins first s.core s.programs states s.history.events c.in-Some.which c.requires.stage (subst (λ (o : Option DataId). IfSome o (λ which. IsDropRound s.core which)) c.in-Some.is c.in_ok-asked.ensures.round) f)

pub returns-clause-lowers : goal.returns-clause-lowers
returns-clause-lowers g c =
    let s = c.args.self.now in
    let r = subst (λ (o : Option DataId). IfSome o (λ which. IsDropRound s.core which)) c.in-Some.is c.in_ok-asked.ensures.round in
    subst (λ (x : RunState). ahead x s.programs < ahead s.core s.programs) (sym c.begin_dropping.ensures) (dropping_lower s.core s.programs c.in-Some.which None (open_over s.core r.set c.requires.stage r.opened))

pub returns-clause-order : goal.returns-clause-order
returns-clause-order g c = λ order.
    let s = c.args.self.now in
    subst (λ (rs : List Seat). IsInOrder s.programs rs) (sym (ap (λ (x : RunState). x.ranks) c.begin_dropping.ensures)) order
