use Rattle.std.proofs.Common.{arith, [], ◌∷◌, ◌≡◌, ◌∙◌, sym, subst, ap, refl, List}
use Rattle.ckpt_model.specs.declared.event.Event.TheVariants as event
use Rattle.node_device.specs.Rack.{states_of}
use Rattle.site_state.specs.Cores.{sealed_core}
use Rattle.site_core.specs.Holds.{Leads}
use Rattle.site_state.specs.declared.cache.Manifest.{Manifest}
use Rattle.site_state.specs.declared.run_state.RunState.{RunState}
use Rattle.site_state.specs.declared.run_state.RunStage.TheVariants as stage
use Rattle.site_state.specs.declared.run_state.SaveStep.TheVariants as work
use Rattle.site_core.proofs.Told.{appended, behind}
use Rattle.site_core.proofs.Saving.{saving_leads, staged}
use Rattle.site_core.proofs.SaveMoves.{sealed_turned}
use Rattle.site_core.proofs.SaveEnds.{seal_told}
use Rattle.site_core.proofs.Works.{saves_now, opened_is}
use Rattle.site_calls.proofs.Telling.{on_ok2, on_ok3}
use Rattle.site_core.proofs.Refusals.{fault_is_told, fault_cause}
use Rattle.site_core.proofs.Turns.{ends_saving, sealing_left, tells_end, moved_stays}
use Rattle.site_core.specs.Causes.{cause_of}
use Rattle.site_state.proofs.AheadCores.{sealed_lower}
use Rattle.site_core.proofs.AheadCores.{ends_lower}
use Rattle.site_state.specs.Waiting.{is_over}
use Rattle.site_state.specs.Order.{IsInOrder}
use Rattle.round_core.specs.declared.seat.Seat.{Seat}
use Rattle.std.proofs.Common.{◌∙◌, ap, sym, subst, Option, List, ◌≡◌}
use Rattle.site_calls.specs.Writes.{IsWrite}
use Rattle.site_core.specs.Writes.{EncoderWrites}
use Rattle.site_state.specs.declared.run_state.RunStage.{RunStage}
use Rattle.site_core.proofs.Fulls.{passes_this, gate_write, end_full}
use Rattle.member_store.specs.Names.{record_name}
use Rattle.site_state.specs.Cores.{saved_in}
use Rattle.site_core.proofs.Sparing.{spared_by}
use Rattle.site_core.specs.Follows.{may_refuse}
use Rattle.site_core.proofs.Placing.{placed_late, placed_end}
use Rattle.site_calls.proofs.Telling.{on_ok}
use Rattle.scr_base.specs.declared.content.Step.{Step}
use Rattle.site_core.proofs.site.Site.seal_first.Goals as goal

pub returns-in-Ok-push-clause-run : goal.returns-in-Ok-push-clause-run
returns-in-Ok-push-clause-run g c = λ tells first base f.
    let s = c.args.self.now in
    let old = states_of g.D.Device.state s.bay in
    let new = states_of g.D.Device.state c.put_gate.new.bay in
    let m = c.in-Some-opened.m in
    let h = saves_now first s.core s.programs old s.history.events work.Sealed c.args.node c.requires.stage f in
    let same : m ≡ h.0 = opened_is first s.core s.programs old s.history.events work.Sealed c.args.node h.0 m h.1 c.in-Some-opened.is in
    let saving = subst (λ (x : Manifest). Rattle.site_core.specs.Holds.IsSaving first s.core s.programs old s.history.events work.Sealed c.args.node x) (sym same) h.1 in
    let told = appended c.push.new.self.events c.reserve.new.self.events s.history.events (event.Sealing m.desc.which) (event.Sealing m.desc.which) c.in-Ok-push.ensures.events c.reserve.ensures.events refl in
    let sealing = seal_told first s.core s.programs old s.history.events c.push.new.self.events work.Sealed c.args.node m saving refl c.in-Some-opened.is told in
    let l = saving_leads first (sealed_core s.core m) s.programs new c.push.new.self.events work.SealedSync c.args.node m
    (sealed_turned first (sealed_core s.core m) s.programs old new c.push.new.self.events c.args.node m c.in-Some.place (sym c.in-Some.ensures.place) refl sealing c.in-Ok.ensures.turned tells) in
    subst (λ (x : RunState). Leads first (staged x (stage.Saving work.SealedSync c.args.node)) s.programs new c.push.new.self.events) (sym (c.in_ok-seal.ensures.sealed m c.in-Some-opened.is)) l

pub returns-in-Err-clause-run : goal.returns-in-Err-clause-run
returns-in-Err-clause-run g c = on_ok3 c.stop_by_fault.result (λ e k t. ends_saving g.D.Device.state c.args.self.now c.stop_by_fault.new.self c.in-Err.trouble (appended c.stop_by_fault.new.self.history.events c.reserve.new.self.events c.args.self.now.history.events (event.Stop (cause_of c.in-Err.trouble)) (event.Stop (cause_of c.in-Err.trouble)) e c.reserve.ensures.events refl) (k ∙ ap (λ (x : RunState). let y : RunState = record x { stage = stage.Over } in y) (c.unseal.ensures.back c.args.self.now.core c.in-Some-opened.m (c.in_ok-seal.ensures.sealed c.in-Some-opened.m c.in-Some-opened.is) c.in-Some-opened.is)) c.stop_by_fault.ensures.fixed.programs work.Sealed c.args.node c.requires.stage t c.put_gate.new.bay c.stop_by_fault.ensures.bay (sealing_left g.D.Device.state c.args.self.now c.args.node c.in-Some.place c.put_gate.new.bay c.in-Some-opened.m c.in-Err.trouble t c.in-Some-opened.is (sym c.in-Some.ensures.place) c.in-Err.ensures.refused))
    c.stop_by_fault.ensures.events c.stop_by_fault.ensures.core c.stop_by_fault.ensures.fault

pub returns-in-Err-clause-told : goal.returns-in-Err-clause-told
returns-in-Err-clause-told g c = on_ok2 c.stop_by_fault.result (λ e t. tells_end g.D.Device.state c.args.self.now c.stop_by_fault.new.self c.in-Err.trouble (appended c.stop_by_fault.new.self.history.events c.reserve.new.self.events c.args.self.now.history.events (event.Stop (cause_of c.in-Err.trouble)) (event.Stop (cause_of c.in-Err.trouble)) e c.reserve.ensures.events refl) (Unit {0}) _ c.put_gate.new.bay c.stop_by_fault.ensures.bay (fault_is_told c.in-Err.trouble t) (fault_cause (Unit {0}) _ _ _ _ c.in-Err.trouble t c.in-Err.ensures.cause))
    c.stop_by_fault.ensures.events c.stop_by_fault.ensures.fault

pub returns-in-Err-clause-still : goal.returns-in-Err-clause-still
returns-in-Err-clause-still g c = moved_stays c.args.self.now c.stop_by_fault.new.self c.stop_by_fault.result c.stop_by_fault.ensures.moved

pub returns-in-Ok-push-clause-told : goal.returns-in-Ok-push-clause-told
returns-in-Ok-push-clause-told g c =
    let s = c.args.self.now in
    let e = event.Sealing c.in-Some-opened.m.desc.which in
    record { told = e ∷ []; few = omega arith; is = appended c.push.new.self.events c.reserve.new.self.events s.history.events e e c.in-Ok-push.ensures.events c.reserve.ensures.events refl; own = (tt, tt); caused = (tt, tt) }

pub returns-in-Ok-push-clause-lowers : goal.returns-in-Ok-push-clause-lowers
returns-in-Ok-push-clause-lowers g c =
    let s = c.args.self.now in
    let x : RunState = record c.seal.new.self { stage = stage.Saving work.SealedSync c.args.node } in
    sealed_lower s.core x s.programs c.seal.ensures.same.shape c.seal.ensures.same.ranks c.args.node c.requires.stage refl

pub returns-in-Err-clause-lowers : goal.returns-in-Err-clause-lowers
returns-in-Err-clause-lowers g c =
    let s = c.args.self.now in
    ends_lower s c.stop_by_fault.new.self c.unseal.new.self c.stop_by_fault.result (ap is_over c.requires.stage) (c.unseal.ensures.same.shape ∙ c.seal.ensures.same.shape) (c.unseal.ensures.same.ranks ∙ c.seal.ensures.same.ranks) c.stop_by_fault.ensures.fixed.programs c.stop_by_fault.ensures.moved c.stop_by_fault.ensures.core

pub returns-in-Ok-push-clause-order : goal.returns-in-Ok-push-clause-order
returns-in-Ok-push-clause-order g c = λ order.
    let s = c.args.self.now in
    subst (λ (rs : List Seat). IsInOrder s.programs rs) (sym (c.seal.ensures.same.ranks)) order

pub returns-in-Ok-push-clause-full : goal.returns-in-Ok-push-clause-full
returns-in-Ok-push-clause-full g c = λ p a k n w passes.
    let s = c.args.self.now in
    let node = c.args.node in
    let this = gate_write s.core node 1 c.in-Some.place c.in-Some-opened.m.desc.which p n a k (sym c.in-Some.ensures.place) (ap (λ (o : Option Manifest). saved_in o c.args.self.now.core.kept) c.in-Some-opened.is) (subst (λ (x : RunStage). EncoderWrites x s.core p n a k) c.requires.stage w) in
    absurd (c.in-Ok.ensures.fits (passes_this (states_of g.D.Device.state s.bay) c.in-Some.place (record_name c.in-Some-opened.m.desc.which node) 1 1 p n a k this passes))

pub returns-in-Err-clause-full : goal.returns-in-Err-clause-full
returns-in-Err-clause-full g c = on_ok2 c.stop_by_fault.result (λ e t p a k n w passes.
    let s = c.args.self.now in
    let node = c.args.node in
    let this = gate_write s.core node 1 c.in-Some.place c.in-Some-opened.m.desc.which p n a k (sym c.in-Some.ensures.place) (ap (λ (o : Option Manifest). saved_in o c.args.self.now.core.kept) c.in-Some-opened.is) (subst (λ (x : RunStage). EncoderWrites x s.core p n a k) c.requires.stage w) in
    end_full g.D.Device.state s c.stop_by_fault.new.self c.put_gate.new.bay (Unit {0}) (IsWrite c.in-Some.place (record_name c.in-Some-opened.m.desc.which node) 1 1) p (λ q y z v one. one.0 ∙ sym this.0) c.in-Err.trouble (fault_is_told c.in-Err.trouble t) c.in-Err.ensures.cause (behind _ e c.reserve.ensures.events))
    c.stop_by_fault.ensures.events c.stop_by_fault.ensures.fault

pub returns-in-Err-clause-spared : goal.returns-in-Err-clause-spared
returns-in-Err-clause-spared g c =
    let s = c.args.self.now in
    let m = c.in-Some-opened.m in
    spared_by g.D.Device.state s _ c.stop_by_fault.new.self c.stop_by_fault.result c.in-Err.trouble c.stop_by_fault.ensures.refused c.stop_by_fault.ensures.no_fault (c.unseal.ensures.back s.core m (c.in_ok-seal.ensures.sealed m c.in-Some-opened.is) c.in-Some-opened.is) refl c.reserve.ensures.events refl c.in-Err.ensures.spared

pub returns-in-Ok-push-clause-placed : goal.returns-in-Ok-push-clause-placed
returns-in-Ok-push-clause-placed g c = placed_late c.args.self.now.core _ (ap may_refuse c.requires.stage) refl

pub returns-in-Err-clause-placed : goal.returns-in-Err-clause-placed
returns-in-Err-clause-placed g c = placed_end c.stop_by_fault.result c.args.self.now.core c.unseal.new.self c.stop_by_fault.new.self.core (ap may_refuse c.requires.stage) c.stop_by_fault.ensures.core

pub returns-in-Err-clause-order : goal.returns-in-Err-clause-order
returns-in-Err-clause-order g c = on_ok c.stop_by_fault.result (λ k order.
    let s = c.args.self.now in
    subst (λ (ps : List (List Step)). IsInOrder ps c.stop_by_fault.new.self.core.ranks) (sym c.stop_by_fault.ensures.fixed.programs)
    (subst (λ (rs : List Seat). IsInOrder s.programs rs) (sym (ap (λ (x : RunState). x.ranks) k ∙ c.unseal.ensures.same.ranks ∙ c.seal.ensures.same.ranks)) order)) c.stop_by_fault.ensures.core
