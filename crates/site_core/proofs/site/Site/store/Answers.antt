use Rattle.std.proofs.Common.{◌≡◌, ◌∙◌, arith, [], ◌∷◌, List, ℕ, Bool, ap, sym, subst, refl}
use Rattle.ckpt_model.specs.declared.event.Event.{Event}
use Rattle.ckpt_model.specs.declared.event.Event.TheVariants as event
use Rattle.node_device.specs.Rack.{states_of}
use Rattle.site_core.specs.Holds.{Leads}
use Rattle.site_core.proofs.Told.{appended, behind}
use Rattle.site_core.proofs.Stored.{stepped, arrived}
use Rattle.site_core.specs.Causes.{cause_of}
use Rattle.site_calls.proofs.Telling.{on_ok2, on_ok3}
use Rattle.site_calls.specs.Writes.{MayWayWrite}
use Rattle.site_calls.proofs.CallCauses.{cause_by}
use Rattle.site_core.proofs.Turns.{ends_storing, tells_end, moved_stays}
use Rattle.site_state.proofs.AheadCores.{nearer_lower, stored_lower}
use Rattle.site_core.proofs.AheadCores.{ends_lower}
use Rattle.site_state.specs.Waiting.{is_over}
use Rattle.site_core.proofs.Fulls.{end_full, at_prefix}
use Rattle.site_core.proofs.Sparing.{spared_by, memory_is_calm}
use Rattle.site_calls.specs.Numbers.{Way}
use Rattle.site_state.specs.declared.run_state.RunState.{RunState}
use Rattle.site_core.proofs.site.Site.store.Goals as goal

pub returns-then-not-over-clause-run : goal.returns-then-not-over-clause-run
returns-then-not-over-clause-run g c = λ tells first base f.
    let s = c.args.self.now in
    let state = g.D.Device.state in
    let l = stepped first s.core s.programs (states_of state s.bay) (states_of state c.store_number.new.bay) s.history.events c.in-Ok.over c.store_number.new.storing c.requires c.store_number.ensures.want c.in-Ok.ensures.steps (c.store_number.ensures.tells 32 ∙ tells 32 (omega arith)) f in
    subst (λ (es : List Event). Leads first (record s.core { storing = c.store_number.new.storing }) s.programs (states_of state c.store_number.new.bay) es) (sym c.reserve.ensures.events) l

pub returns-in-Ok-push-clause-run : goal.returns-in-Ok-push-clause-run
returns-in-Ok-push-clause-run g c = λ tells first base f.
    let s = c.args.self.now in
    let state = g.D.Device.state in
    let told = appended c.push.new.self.events c.reserve.new.self.events s.history.events (event.Run s.core.run c.in_ok-places.places) (event.Run s.core.run s.core.places) c.in-Ok-push.ensures.events c.reserve.ensures.events (ap (λ (p : List ℕ). event.Run s.core.run p) c.in_ok-places.ensures) in
    arrived first s.core s.programs (states_of state s.bay) (states_of state c.store_number.new.bay) s.history.events c.push.new.self.events c.in-Ok.over c.store_number.new.storing c.requires c.if-not-over.false tells c.in-Ok.ensures.steps told f

pub returns-in-Err-clause-run : goal.returns-in-Err-clause-run
returns-in-Err-clause-run g c = on_ok3 c.stop_by.result (λ e k t. ends_storing g.D.Device.state c.args.self.now c.stop_by.new.self c.in-Err.trouble (appended c.stop_by.new.self.history.events c.reserve.new.self.events c.args.self.now.history.events (event.Stop (cause_of c.in-Err.trouble)) (event.Stop (cause_of c.in-Err.trouble)) e c.reserve.ensures.events refl) c.store_number.new.storing k c.stop_by.ensures.fixed.programs c.requires t c.store_number.new.bay c.stop_by.ensures.bay c.in-Err.ensures.refused)
    c.stop_by.ensures.events c.stop_by.ensures.core c.stop_by.ensures.told

pub returns-in-Err-clause-told : goal.returns-in-Err-clause-told
returns-in-Err-clause-told g c = on_ok2 c.stop_by.result (λ e t. tells_end g.D.Device.state c.args.self.now c.stop_by.new.self c.in-Err.trouble (appended c.stop_by.new.self.history.events c.reserve.new.self.events c.args.self.now.history.events (event.Stop (cause_of c.in-Err.trouble)) (event.Stop (cause_of c.in-Err.trouble)) e c.reserve.ensures.events refl) Bool _ c.store_number.new.bay c.stop_by.ensures.bay t (cause_by Bool (MayWayWrite c.args.self.now.core.storing) _ (λ p n a k w. (c.requires, w)) _ _ c.in-Err.trouble c.in-Err.ensures.cause))
    c.stop_by.ensures.events c.stop_by.ensures.told

pub returns-in-Err-clause-still : goal.returns-in-Err-clause-still
returns-in-Err-clause-still g c = moved_stays c.args.self.now c.stop_by.new.self c.stop_by.result c.stop_by.ensures.moved

pub returns-in-Ok-push-clause-told : goal.returns-in-Ok-push-clause-told
returns-in-Ok-push-clause-told g c =
    let s = c.args.self.now in
    let e = event.Run s.core.run c.in_ok-places.places in
    record { told = e ∷ []; few = omega arith; is = appended c.push.new.self.events c.reserve.new.self.events s.history.events e e c.in-Ok-push.ensures.events c.reserve.ensures.events refl; own = (tt, tt); caused = (tt, tt) }

pub returns-then-not-over-clause-lowers : goal.returns-then-not-over-clause-lowers
returns-then-not-over-clause-lowers g c =
    let s = c.args.self.now in
    nearer_lower s.core s.programs c.store_number.new.storing c.requires (c.in-Ok.ensures.steps.here.fewer c.if-not-over.true)

pub returns-in-Ok-push-clause-lowers : goal.returns-in-Ok-push-clause-lowers
returns-in-Ok-push-clause-lowers g c =
    let s = c.args.self.now in
    stored_lower s.core s.programs c.store_number.new.storing c.requires

pub returns-in-Err-clause-lowers : goal.returns-in-Err-clause-lowers
returns-in-Err-clause-lowers g c =
    let s = c.args.self.now in
    ends_lower s c.stop_by.new.self (record s.core { storing = c.store_number.new.storing }) c.stop_by.result (ap is_over c.requires) refl refl c.stop_by.ensures.fixed.programs c.stop_by.ensures.moved c.stop_by.ensures.core

pub returns-in-Err-clause-full : goal.returns-in-Err-clause-full
returns-in-Err-clause-full g c = on_ok2 c.stop_by.result (λ e t p a k n w passes.
    let s = c.args.self.now in
    let only : (q : ℕ) (m : List ℕ) (x y : ℕ) → MayWayWrite s.core.storing q m x y → q ≡ p = λ q m x y may. at_prefix s.core.storing q m x y may ∙ sym w.1.0 in
    end_full g.D.Device.state s c.stop_by.new.self c.store_number.new.bay Bool (MayWayWrite s.core.storing) p only c.in-Err.trouble t c.in-Err.ensures.cause (behind _ e c.reserve.ensures.events))
    c.stop_by.ensures.events c.stop_by.ensures.told

pub returns-in-Err-clause-spared : goal.returns-in-Err-clause-spared
returns-in-Err-clause-spared g c = spared_by g.D.Device.state c.args.self.now _ c.stop_by.new.self c.stop_by.result c.in-Err.trouble c.stop_by.ensures.refused (memory_is_calm c.stop_by.result c.in-Err.trouble c.stop_by.ensures.memory) (ap (λ (w : Way). let y : RunState = record c.args.self.now.core { storing = w } in y) c.in-Err.ensures.stays) refl c.reserve.ensures.events refl c.in-Err.ensures.spared
