use Rattle.std.proofs.Common.{refl}
use Rattle.std.proofs.Common.{◌+◌, ◌-◌, sym, subst, ◌<◌, ap, List, ◌∙◌}
use Rattle.std.specs.Prelude.{nat_lt, if◌then◌else◌}
use Rattle.node_device.specs.Rack.{states_of}
use Rattle.site_state.specs.Cores.{next_drop_core}
use Rattle.site_core.specs.Holds.{Leads}
use Rattle.site_state.specs.declared.run_state.RunState.{RunState}
use Rattle.site_state.specs.declared.run_state.DropStep.TheVariants as drop
use Rattle.site_state.specs.declared.run_state.RunStage.TheVariants as stage
use Rattle.site_core.proofs.Removing.{removal_synced}
use Rattle.site_core.proofs.DroppedRounds.{ends_dropping}
use Rattle.site_calls.proofs.Telling.{on_ok3}
use Rattle.site_state.proofs.AheadCores.{dropped_lower}
use Rattle.site_state.specs.Waiting.{is_over}
use Rattle.site_state.specs.Ahead.{ahead}
use Rattle.site_state.specs.Order.{IsInOrder}
use Rattle.round_core.specs.declared.seat.Seat.{Seat}
use Rattle.site_state.proofs.InOrder.{dropped_ranks}
use Rattle.site_core.proofs.Told.{behind, with_room}
use Rattle.site_core.proofs.Sparing.{spared_by}
use Rattle.site_core.proofs.site.Site.sync_removal.Goals as goal

pub returns-in-Ok-clause-run : goal.returns-in-Ok-clause-run
returns-in-Ok-clause-run g c = λ tells first base f.
    let s = c.args.self.now in
    let old = states_of g.D.Device.state s.bay in
    let new = states_of g.D.Device.state c.sync_node.new.bay in
    let n = c.args.node in
    let next : RunState = if nat_lt n (s.core.shape.nodes - 1) then next_drop_core s.core (n + 1) else record s.core { stage = stage.Dropped } in
    with_room c.reserve.ensures.events (subst (λ (x : RunState). Leads first x s.programs new s.history.events) (sym {b = next} c.drop_after.ensures)
    (removal_synced first s.core s.programs old new s.history.events n c.in-Some.place c.requires.stage (sym c.in-Some.ensures.place) f c.in-Ok.ensures.synced))

pub returns-in-Err-clause-run : goal.returns-in-Err-clause-run
returns-in-Err-clause-run g c = on_ok3 c.stop_by_fault.result (λ e k t. ends_dropping g.D.Device.state c.args.self.now c.stop_by_fault.new.self c.in-Err.trouble (behind _ e c.reserve.ensures.events) k c.stop_by_fault.ensures.fixed.programs drop.Sync c.args.node c.requires.stage t c.in-Some.place c.sync_node.new.bay c.stop_by_fault.ensures.bay c.in-Err.ensures.refused)
    c.stop_by_fault.ensures.events c.stop_by_fault.ensures.core c.stop_by_fault.ensures.fault

pub returns-in-Ok-clause-lowers : goal.returns-in-Ok-clause-lowers
returns-in-Ok-clause-lowers g c =
    let s = c.args.self.now in
    let next : RunState = if nat_lt c.args.node (s.core.shape.nodes - 1) then next_drop_core s.core (c.args.node + 1) else record s.core { stage = stage.Dropped } in
    subst (λ (x : RunState). ahead x s.programs < ahead s.core s.programs) (sym {b = next} c.drop_after.ensures) (dropped_lower s.core s.programs c.args.node c.requires.stage)

pub returns-in-Err-clause-lowers : goal.returns-in-Err-clause-lowers
returns-in-Err-clause-lowers g c = c.stop_by_fault.ensures.lowers (ap is_over c.requires.stage)

pub returns-in-Ok-clause-order : goal.returns-in-Ok-clause-order
returns-in-Ok-clause-order g c = λ order.
    let s = c.args.self.now in
    subst (λ (rs : List Seat). IsInOrder s.programs rs) (sym (ap (λ (x : RunState). x.ranks) c.drop_after.ensures ∙ dropped_ranks c.args.self.now.core c.args.node)) order

pub returns-in-Err-clause-spared : goal.returns-in-Err-clause-spared
returns-in-Err-clause-spared g c = spared_by g.D.Device.state c.args.self.now _ c.stop_by_fault.new.self c.stop_by_fault.result c.in-Err.trouble c.stop_by_fault.ensures.refused c.stop_by_fault.ensures.no_fault refl refl c.reserve.ensures.events refl c.in-Err.ensures.spared
