use Rattle.std.proofs.Common.{sym, subst, refl, ap}
use Rattle.node_device.specs.Rack.{states_of}
use Rattle.site_state.specs.declared.run_state.RunStage.{RunStage}
use Rattle.site_state.specs.declared.run_state.SaveStep.TheVariants as work
use Rattle.site_core.specs.Holds.{Leads}
use Rattle.site_core.proofs.Saving.{staged}
use Rattle.site_core.proofs.Works.{saves_now, whole_after}
use Rattle.site_calls.proofs.Telling.{on_ok2, on_ok3}
use Rattle.site_core.proofs.Refusals.{fault_is_told, fault_cause}
use Rattle.site_core.proofs.Turns.{ends_saving, synced_left, tells_end, moved_stays}
use Rattle.site_state.proofs.AheadCores.{whole_done}
use Rattle.site_state.specs.Waiting.{is_over}
use Rattle.site_core.proofs.Told.{behind, with_room}
use Rattle.site_core.specs.Causes.{cause_of}
use Rattle.site_core.proofs.Sparing.{spared_by}
use Rattle.site_core.specs.Follows.{may_refuse}
use Rattle.site_core.proofs.Placing.{placed_late, placed_end, after_none}
use Rattle.site_core.proofs.site.Site.sync_whole.Goals as goal

pub returns-in-Ok-clause-run : goal.returns-in-Ok-clause-run
returns-in-Ok-clause-run g c = λ tells first base f.
    let s = c.args.self.now in
    let old = states_of g.D.Device.state s.bay in
    let new = states_of g.D.Device.state c.sync_node.new.bay in
    let h = saves_now first s.core s.programs old s.history.events work.WholeSync c.args.node c.requires.stage f in
    let l = whole_after first s.core s.programs old new s.history.events c.args.node c.in-Some.place (sym c.in-Some.ensures.place) c.in-Ok.ensures.synced h.0 h.1 in
    with_room c.reserve.ensures.events (subst (λ (x : RunStage). Leads first (staged s.core x) s.programs new s.history.events) (sym c.after-self.ensures) l)

pub returns-in-Err-clause-run : goal.returns-in-Err-clause-run
returns-in-Err-clause-run g c = on_ok3 c.stop_by_fault.result (λ e k t. ends_saving g.D.Device.state c.args.self.now c.stop_by_fault.new.self c.in-Err.trouble (behind _ e c.reserve.ensures.events) k c.stop_by_fault.ensures.fixed.programs work.WholeSync c.args.node c.requires.stage t c.sync_node.new.bay c.stop_by_fault.ensures.bay (synced_left g.D.Device.state c.args.self.now c.args.node c.in-Some.place c.sync_node.new.bay work.WholeSync (cause_of c.in-Err.trouble) c.in-Err.ensures.refused))
    c.stop_by_fault.ensures.events c.stop_by_fault.ensures.core c.stop_by_fault.ensures.fault

pub returns-in-Err-clause-told : goal.returns-in-Err-clause-told
returns-in-Err-clause-told g c = on_ok2 c.stop_by_fault.result (λ e t. tells_end g.D.Device.state c.args.self.now c.stop_by_fault.new.self c.in-Err.trouble (behind _ e c.reserve.ensures.events) (Unit {0}) _ c.sync_node.new.bay c.stop_by_fault.ensures.bay (fault_is_told c.in-Err.trouble t) (fault_cause (Unit {0}) _ _ _ _ c.in-Err.trouble t c.in-Err.ensures.cause))
    c.stop_by_fault.ensures.events c.stop_by_fault.ensures.fault

pub returns-in-Err-clause-still : goal.returns-in-Err-clause-still
returns-in-Err-clause-still g c = moved_stays c.args.self.now c.stop_by_fault.new.self c.stop_by_fault.result c.stop_by_fault.ensures.moved

pub returns-in-Ok-clause-lowers : goal.returns-in-Ok-clause-lowers
returns-in-Ok-clause-lowers g c =
    let s = c.args.self.now in
    whole_done s.core (record s.core { stage = c.after-self.result }) s.programs refl refl c.args.node c.requires.stage c.after-self.ensures

pub returns-in-Err-clause-lowers : goal.returns-in-Err-clause-lowers
returns-in-Err-clause-lowers g c = c.stop_by_fault.ensures.lowers (ap is_over c.requires.stage)

pub returns-in-Err-clause-spared : goal.returns-in-Err-clause-spared
returns-in-Err-clause-spared g c = spared_by g.D.Device.state c.args.self.now _ c.stop_by_fault.new.self c.stop_by_fault.result c.in-Err.trouble c.stop_by_fault.ensures.refused c.stop_by_fault.ensures.no_fault refl refl c.reserve.ensures.events refl c.in-Err.ensures.spared

pub returns-in-Ok-clause-placed : goal.returns-in-Ok-clause-placed
returns-in-Ok-clause-placed g c = placed_late c.args.self.now.core _ (ap may_refuse c.requires.stage) (after_none _ _ _ _ _ _ _ c.after-self.ensures)

pub returns-in-Err-clause-placed : goal.returns-in-Err-clause-placed
returns-in-Err-clause-placed g c = placed_end c.stop_by_fault.result c.args.self.now.core c.args.self.now.core c.stop_by_fault.new.self.core (ap may_refuse c.requires.stage) c.stop_by_fault.ensures.core
