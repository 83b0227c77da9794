use Rattle.std.proofs.Common.{sym, subst, refl, ap}
use Rattle.scr_base.specs.declared.shape.DataId.{DataId}
use Rattle.node_device.specs.Rack.{states_of, OnlyAt}
use Rattle.member_store.specs.Names.{record_name}
use Rattle.site_calls.specs.Calls.{Turned}
use Rattle.site_state.specs.declared.run_state.SaveStep.TheVariants as work
use Rattle.site_core.proofs.Saving.{saving_leads}
use Rattle.site_core.proofs.SaveMoves.{sealed_turned}
use Rattle.site_core.proofs.Works.{saves_now, saved_is}
use Rattle.site_calls.proofs.Telling.{on_ok2, on_ok3}
use Rattle.site_core.proofs.Refusals.{fault_is_told, fault_cause}
use Rattle.site_core.proofs.Turns.{ends_saving, sealed_left, tells_end, moved_stays}
use Rattle.site_state.proofs.AheadCores.{sealed_lower}
use Rattle.site_state.specs.declared.run_state.RunStage.TheVariants as stage
use Rattle.site_state.specs.Waiting.{is_over}
use Rattle.site_core.proofs.Told.{behind, with_room}
use Rattle.std.proofs.Common.{◌∙◌, ap, sym, subst}
use Rattle.site_calls.specs.Writes.{IsWrite}
use Rattle.site_core.specs.Writes.{EncoderWrites}
use Rattle.site_state.specs.declared.run_state.RunStage.{RunStage}
use Rattle.site_core.proofs.Fulls.{passes_this, gate_write, end_full}
use Rattle.site_core.specs.Causes.{cause_of}
use Rattle.site_core.proofs.Sparing.{spared_by}
use Rattle.site_core.specs.Follows.{may_refuse}
use Rattle.site_core.proofs.Placing.{placed_late, placed_end}
use Rattle.site_core.proofs.site.Site.seal_next.Goals as goal

pub returns-in-Ok-clause-run : goal.returns-in-Ok-clause-run
returns-in-Ok-clause-run g c = λ tells first base f.
    let s = c.args.self.now in
    let old = states_of g.D.Device.state s.bay in
    let new = states_of g.D.Device.state c.put_gate.new.bay in
    let h = saves_now first s.core s.programs old s.history.events work.Sealed c.args.node c.requires.stage f in
    let which = saved_is first s.core s.programs old s.history.events work.Sealed c.args.node h.0 c.in-Some-saved.which h.1 c.in-Some-saved.ensures in
    let turned = subst (λ (w : DataId). OnlyAt c.in-Some.place (Turned (record_name w c.args.node) 1) old new) which c.in-Ok.ensures.turned in
    with_room c.reserve.ensures.events (saving_leads first s.core s.programs new s.history.events work.SealedSync c.args.node h.0
    (sealed_turned first s.core s.programs old new s.history.events c.args.node h.0 c.in-Some.place (sym c.in-Some.ensures.place) c.requires.closed h.1 turned tells))

pub returns-in-Err-clause-run : goal.returns-in-Err-clause-run
returns-in-Err-clause-run g c = on_ok3 c.stop_by_fault.result (λ e k t. ends_saving g.D.Device.state c.args.self.now c.stop_by_fault.new.self c.in-Err.trouble (behind _ e c.reserve.ensures.events) k c.stop_by_fault.ensures.fixed.programs work.Sealed c.args.node c.requires.stage t c.put_gate.new.bay c.stop_by_fault.ensures.bay (sealed_left g.D.Device.state c.args.self.now c.args.node c.in-Some.place c.put_gate.new.bay c.in-Some-saved.which (cause_of c.in-Err.trouble) c.requires.closed (sym c.in-Some.ensures.place) c.in-Some-saved.ensures c.in-Err.ensures.refused))
    c.stop_by_fault.ensures.events c.stop_by_fault.ensures.core c.stop_by_fault.ensures.fault

pub returns-in-Err-clause-told : goal.returns-in-Err-clause-told
returns-in-Err-clause-told g c = on_ok2 c.stop_by_fault.result (λ e t. tells_end g.D.Device.state c.args.self.now c.stop_by_fault.new.self c.in-Err.trouble (behind _ e c.reserve.ensures.events) (Unit {0}) _ c.put_gate.new.bay c.stop_by_fault.ensures.bay (fault_is_told c.in-Err.trouble t) (fault_cause (Unit {0}) _ _ _ _ c.in-Err.trouble t c.in-Err.ensures.cause))
    c.stop_by_fault.ensures.events c.stop_by_fault.ensures.fault

pub returns-in-Err-clause-still : goal.returns-in-Err-clause-still
returns-in-Err-clause-still g c = moved_stays c.args.self.now c.stop_by_fault.new.self c.stop_by_fault.result c.stop_by_fault.ensures.moved

pub returns-in-Ok-clause-lowers : goal.returns-in-Ok-clause-lowers
returns-in-Ok-clause-lowers g c =
    let s = c.args.self.now in
    sealed_lower s.core (record s.core { stage = stage.Saving work.SealedSync c.args.node }) s.programs refl refl c.args.node c.requires.stage refl

pub returns-in-Err-clause-lowers : goal.returns-in-Err-clause-lowers
returns-in-Err-clause-lowers g c = c.stop_by_fault.ensures.lowers (ap is_over c.requires.stage)

pub returns-in-Ok-clause-full : goal.returns-in-Ok-clause-full
returns-in-Ok-clause-full g c = λ p a k n w passes.
    let s = c.args.self.now in
    let node = c.args.node in
    let this = gate_write s.core node 1 c.in-Some.place c.in-Some-saved.which p n a k (sym c.in-Some.ensures.place) (sym c.in-Some-saved.ensures) (subst (λ (x : RunStage). EncoderWrites x s.core p n a k) c.requires.stage w) in
    absurd (c.in-Ok.ensures.fits (passes_this (states_of g.D.Device.state s.bay) c.in-Some.place (record_name c.in-Some-saved.which node) 1 1 p n a k this passes))

pub returns-in-Err-clause-full : goal.returns-in-Err-clause-full
returns-in-Err-clause-full g c = on_ok2 c.stop_by_fault.result (λ e t p a k n w passes.
    let s = c.args.self.now in
    let node = c.args.node in
    let this = gate_write s.core node 1 c.in-Some.place c.in-Some-saved.which p n a k (sym c.in-Some.ensures.place) (sym c.in-Some-saved.ensures) (subst (λ (x : RunStage). EncoderWrites x s.core p n a k) c.requires.stage w) in
    end_full g.D.Device.state s c.stop_by_fault.new.self c.put_gate.new.bay (Unit {0}) (IsWrite c.in-Some.place (record_name c.in-Some-saved.which node) 1 1) p (λ q y z v one. one.0 ∙ sym this.0) c.in-Err.trouble (fault_is_told c.in-Err.trouble t) c.in-Err.ensures.cause (behind _ e c.reserve.ensures.events))
    c.stop_by_fault.ensures.events c.stop_by_fault.ensures.fault

pub returns-in-Err-clause-spared : goal.returns-in-Err-clause-spared
returns-in-Err-clause-spared g c = spared_by g.D.Device.state c.args.self.now _ c.stop_by_fault.new.self c.stop_by_fault.result c.in-Err.trouble c.stop_by_fault.ensures.refused c.stop_by_fault.ensures.no_fault refl refl c.reserve.ensures.events refl c.in-Err.ensures.spared

pub returns-in-Ok-clause-placed : goal.returns-in-Ok-clause-placed
returns-in-Ok-clause-placed g c = placed_late c.args.self.now.core _ (ap may_refuse c.requires.stage) refl

pub returns-in-Err-clause-placed : goal.returns-in-Err-clause-placed
returns-in-Err-clause-placed g c = placed_end c.stop_by_fault.result c.args.self.now.core c.args.self.now.core c.stop_by_fault.new.self.core (ap may_refuse c.requires.stage) c.stop_by_fault.ensures.core
