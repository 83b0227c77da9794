use Rattle.std.proofs.Common.{ap, refl, ◌+◌}
use Rattle.std.specs.Prelude.{slice_set}
use Rattle.round_core.specs.Seats.{stepped}
use Rattle.site_state.specs.declared.run_state.RunState.{RunState}
use Rattle.node_device.specs.Rack.{states_of}
use Rattle.ckpt_model.specs.declared.event.Event.TheVariants as event
use Rattle.site_core.proofs.LocalSteps.{tells_local, lead_on}
use Rattle.site_core.proofs.Turns.{tells_one, calm_refused}
use Rattle.site_core.specs.Follows.{IsOfRank, carried}
use Rattle.site_core.proofs.AheadCores.{stepped_run}
use Rattle.site_core.proofs.InOrder.{stepped_order}
use Rattle.site_core.proofs.Told.{behind}
use Rattle.site_core.proofs.Accounts.{untouched}
use Rattle.site_core.proofs.site.Site.tell_local.Goals as goal

pub returns-clause-run : goal.returns-clause-run
returns-clause-run g c = λ tells first base follows.
    let s = c.args.self.now in
    let state = g.D.Device.state in
    let n = c.requires.next in
    let after = c.go_past.new.self in
    lead_on first (let x : RunState = record s.core { ranks = slice_set s.core.ranks c.args.rank (stepped n.seat) } in x) after.core s.programs after.programs (states_of state s.bay) (states_of state after.bay) after.history.events
    (c.go_past.ensures.core n.seat n.is) c.go_past.ensures.fixed.programs (ap (states_of state) c.go_past.ensures.bay)
    (tells_local first s.core s.programs (states_of state s.bay) s.history.events after.history.events c.args.rank n.seat c.args.step c.args.answer c.requires.stage n.of_program follows
    (c.requires.steps tells first follows n.seat n.is) (behind _ (c.go_past.ensures.events n.seat n.is) c.reserve.ensures.events))

pub returns-clause-told : goal.returns-clause-told
returns-clause-told g c =
    let n = c.requires.next in
    let s = c.args.self.now in
    let state = g.D.Device.state in
    tells_one (IsOfRank c.args.rank) _ state s c.go_past.new.self (event.Local c.args.rank (n.seat.number + 1) c.args.step c.args.answer) (behind _ (c.go_past.ensures.events n.seat n.is) c.reserve.ensures.events) refl (calm_refused _ (states_of state s.bay) (states_of state c.go_past.new.self.bay) c.args.answer c.requires.calm)

pub returns-clause-accounted : goal.returns-clause-accounted
returns-clause-accounted g c =
    let n = c.requires.next in
    untouched c.go_past.ensures.bay (ap carried (c.go_past.ensures.core n.seat n.is))

pub returns-clause-lowers : goal.returns-clause-lowers
returns-clause-lowers g c = stepped_run c.args.self.now c.go_past.new.self c.args.self.now.core c.args.rank c.args.step c.requires.next c.requires.stage c.requires.stage refl refl c.go_past.ensures.fixed.programs c.go_past.ensures.core

pub returns-clause-order : goal.returns-clause-order
returns-clause-order g c = stepped_order c.args.self.now c.go_past.new.self c.args.self.now.core c.args.rank c.args.step c.requires.next refl c.go_past.ensures.fixed.programs c.go_past.ensures.core
