use Rattle.site_state.proofs.AheadCores.{dropping_lower}
use Rattle.std.proofs.Common.{sym, subst, Some, ◌<◌, List, ap}
use Rattle.site_state.specs.declared.run_state.RunState.{RunState}
use Rattle.site_state.specs.Ahead.{ahead}
use Rattle.site_state.specs.Order.{IsInOrder}
use Rattle.round_core.specs.declared.seat.Seat.{Seat}
use Rattle.site_core.proofs.site.Site.carry.Goals as goal

pub returns-clause-lowers : goal.returns-clause-lowers
returns-clause-lowers g c = λ over.
    let s = c.args.self.now in
    subst (λ (x : RunState). ahead x s.programs < ahead s.core s.programs) (sym c.begin_dropping.ensures) (dropping_lower s.core s.programs c.args.which (Some c.in_ok-refusal.refusal) over)

pub returns-clause-order : goal.returns-clause-order
returns-clause-order g c = λ order.
    let s = c.args.self.now in
    subst (λ (rs : List Seat). IsInOrder s.programs rs) (sym (ap (λ (x : RunState). x.ranks) c.begin_dropping.ensures)) order
