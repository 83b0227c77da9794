use Rattle.std.proofs.Common.{refl, ◌∷◌, [], arith, ◌≡◌, ◌∙◌, sym, subst, ap, ◌<◌, List}
use Rattle.scr_base.specs.declared.shape.DataId.{DataId}
use Rattle.ckpt_model.specs.declared.event.Event.TheVariants as event
use Rattle.node_device.specs.Rack.{states_of}
use Rattle.site_state.specs.Cores.{settled_core}
use Rattle.site_core.specs.Holds.{Leads}
use Rattle.site_state.specs.declared.run_state.RunState.{RunState}
use Rattle.site_state.specs.declared.run_state.SaveStep.TheVariants as work
use Rattle.site_core.proofs.Told.{appended}
use Rattle.site_core.proofs.SaveEnds.{settle_told}
use Rattle.site_core.proofs.Works.{saves_now, saved_is, last_node}
use Rattle.site_calls.proofs.Telling.{on_ok2, on_ok3}
use Rattle.site_core.proofs.Refusals.{fault_is_told, fault_cause}
use Rattle.site_core.proofs.Turns.{ends_saving, synced_left, tells_end, moved_stays}
use Rattle.site_core.specs.Causes.{cause_of}
use Rattle.site_state.proofs.AheadCores.{settled_lower}
use Rattle.site_state.specs.Waiting.{is_over}
use Rattle.site_state.specs.Ahead.{ahead}
use Rattle.site_state.specs.Order.{IsInOrder}
use Rattle.round_core.specs.declared.seat.Seat.{Seat}
use Rattle.site_core.proofs.Sparing.{spared_by}
use Rattle.site_core.specs.Follows.{may_refuse, carried}
use Rattle.site_core.proofs.Placing.{placed_late, placed_end}
use Rattle.site_core.proofs.site.Site.settle.Goals as goal

pub returns-in-Ok-push-clause-run : goal.returns-in-Ok-push-clause-run
returns-in-Ok-push-clause-run g c = λ tells first base f.
    let s = c.args.self.now in
    let old = states_of g.D.Device.state s.bay in
    let new = states_of g.D.Device.state c.sync_node.new.bay in
    let h = saves_now first s.core s.programs old s.history.events work.SealedSync c.args.node c.requires.stage f in
    let which : c.in-Some-saved.which ≡ h.0.desc.which = saved_is first s.core s.programs old s.history.events work.SealedSync c.args.node h.0 c.in-Some-saved.which h.1 c.in-Some-saved.ensures in
    let told = appended c.push.new.self.events c.reserve.new.self.events s.history.events (event.Settled c.in-Some-saved.which) (event.Settled h.0.desc.which) c.in-Ok-push.ensures.events c.reserve.ensures.events (ap (λ (w : DataId). event.Settled w) which) in
    let l = settle_told first s.core s.programs old new s.history.events c.push.new.self.events c.args.node h.0 c.in-Some.place (sym c.in-Some.ensures.place) h.1 c.in-None.is (last_node c.args.node s.core.shape.nodes h.1.saves.below c.requires.last) c.in-Ok.ensures.synced told in
    subst (λ (x : RunState). Leads first x s.programs new c.push.new.self.events) (ap (settled_core s.core) (sym which) ∙ sym c.settle.ensures) l

pub returns-in-Err-clause-run : goal.returns-in-Err-clause-run
returns-in-Err-clause-run g c = on_ok3 c.stop_by_fault.result (λ e k t. ends_saving g.D.Device.state c.args.self.now c.stop_by_fault.new.self c.in-Err.trouble (appended c.stop_by_fault.new.self.history.events c.reserve.new.self.events c.args.self.now.history.events (event.Stop (cause_of c.in-Err.trouble)) (event.Stop (cause_of c.in-Err.trouble)) e c.reserve.ensures.events refl) k c.stop_by_fault.ensures.fixed.programs work.SealedSync c.args.node c.requires.stage t c.sync_node.new.bay c.stop_by_fault.ensures.bay (synced_left g.D.Device.state c.args.self.now c.args.node c.in-Some.place c.sync_node.new.bay work.SealedSync (cause_of c.in-Err.trouble) c.in-Err.ensures.refused))
    c.stop_by_fault.ensures.events c.stop_by_fault.ensures.core c.stop_by_fault.ensures.fault

pub returns-in-Err-clause-told : goal.returns-in-Err-clause-told
returns-in-Err-clause-told g c = on_ok2 c.stop_by_fault.result (λ e t. tells_end g.D.Device.state c.args.self.now c.stop_by_fault.new.self c.in-Err.trouble (appended c.stop_by_fault.new.self.history.events c.reserve.new.self.events c.args.self.now.history.events (event.Stop (cause_of c.in-Err.trouble)) (event.Stop (cause_of c.in-Err.trouble)) e c.reserve.ensures.events refl) (Unit {0}) _ c.sync_node.new.bay c.stop_by_fault.ensures.bay (fault_is_told c.in-Err.trouble t) (fault_cause (Unit {0}) _ _ _ _ c.in-Err.trouble t c.in-Err.ensures.cause))
    c.stop_by_fault.ensures.events c.stop_by_fault.ensures.fault

pub returns-in-Err-clause-still : goal.returns-in-Err-clause-still
returns-in-Err-clause-still g c = moved_stays c.args.self.now c.stop_by_fault.new.self c.stop_by_fault.result c.stop_by_fault.ensures.moved

pub returns-in-Ok-push-clause-told : goal.returns-in-Ok-push-clause-told
returns-in-Ok-push-clause-told g c =
    let s = c.args.self.now in
    let e = event.Settled c.in-Some-saved.which in
    record { told = e ∷ []; few = omega arith; is = appended c.push.new.self.events c.reserve.new.self.events s.history.events e e c.in-Ok-push.ensures.events c.reserve.ensures.events refl; own = (tt, tt); caused = (tt, tt) }

pub returns-in-Ok-push-clause-lowers : goal.returns-in-Ok-push-clause-lowers
returns-in-Ok-push-clause-lowers g c =
    let s = c.args.self.now in
    subst (λ (x : RunState). ahead x s.programs < ahead s.core s.programs) (sym c.settle.ensures) (settled_lower s.core s.programs c.args.node c.in-Some-saved.which c.requires.stage c.in-None.is)

pub returns-in-Err-clause-lowers : goal.returns-in-Err-clause-lowers
returns-in-Err-clause-lowers g c = c.stop_by_fault.ensures.lowers (ap is_over c.requires.stage)

pub returns-in-Ok-push-clause-order : goal.returns-in-Ok-push-clause-order
returns-in-Ok-push-clause-order g c = λ order.
    let s = c.args.self.now in
    subst (λ (rs : List Seat). IsInOrder s.programs rs) (sym (ap (λ (x : RunState). x.ranks) c.settle.ensures)) order

pub returns-in-Err-clause-spared : goal.returns-in-Err-clause-spared
returns-in-Err-clause-spared g c = spared_by g.D.Device.state c.args.self.now _ c.stop_by_fault.new.self c.stop_by_fault.result c.in-Err.trouble c.stop_by_fault.ensures.refused c.stop_by_fault.ensures.no_fault refl refl c.reserve.ensures.events refl c.in-Err.ensures.spared

pub returns-in-Ok-push-clause-placed : goal.returns-in-Ok-push-clause-placed
returns-in-Ok-push-clause-placed g c = placed_late c.args.self.now.core _ (ap may_refuse c.requires.stage) (ap carried c.settle.ensures)

pub returns-in-Err-clause-placed : goal.returns-in-Err-clause-placed
returns-in-Err-clause-placed g c = placed_end c.stop_by_fault.result c.args.self.now.core c.args.self.now.core c.stop_by_fault.new.self.core (ap may_refuse c.requires.stage) c.stop_by_fault.ensures.core
