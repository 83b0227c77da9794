use Rattle.std.proofs.Common.{arith, ◌∙◌, ℕ, ap, sym, subst, refl, inl}
use Rattle.node_device.specs.DeviceState.{DeviceState}
use Rattle.node_device.specs.Rack.{states_of}
use Rattle.site_core.specs.Stored.{cells_of, stored_run}
use Rattle.site_core.specs.Holds.{Leads}
use Rattle.site_core.specs.Follows.{IsOfWorker}
use Rattle.site_calls.proofs.Telling.{tell_on, same_states, on_ok, on_ok2, on_ok3}
use Rattle.site_calls.proofs.CallCauses.{no_write}
use Rattle.site_core.proofs.Turns.{ends_early, tells_end, moved_stays, told_across}
use Rattle.site_state.specs.Waiting.{is_over}
use Rattle.site_core.proofs.Accounts.{across}
use Rattle.site_core.proofs.Told.{behind, with_room}
use Rattle.site_core.proofs.Sparing.{spared_by, memory_is_calm}
use Rattle.site_core.proofs.Sparing.{spared_behind}
use Rattle.site_core.proofs.site.Site.begin_run.Goals as goal

pub take_number-requires-clause-last : goal.take_number-requires-clause-last
take_number-requires-clause-last g c = λ tells.
    let s = c.args.self.now in
    let state = g.D.Device.state in
    let same = same_states 32 (states_of state s.bay) (states_of state c.last_run.new.bay) c.in-Ok.ensures.same in
    c.in-Ok.ensures.run (sym (c.last_run.ensures.tells 32) ∙ tells 32 (omega arith)) ∙ sym (ap (λ (st : ℕ → DeviceState). stored_run (cells_of st)) same)

pub returns-in-Ok-clause-run : goal.returns-in-Ok-clause-run
returns-in-Ok-clause-run g c =
    let s = c.args.self.now in
    let state = g.D.Device.state in
    let same = same_states 32 (states_of state s.bay) (states_of state c.last_run.new.bay) c.in-Ok.ensures.same in
    on_ok c.take_number.result
    (λ keeps tells first base f. keeps (tell_on (states_of state s.bay) (states_of state c.last_run.new.bay) c.last_run.ensures.tells tells) first base (with_room c.reserve.ensures.events (subst (λ (st : ℕ → DeviceState). Leads first s.core s.programs st s.history.events) (sym same) f)))
    c.take_number.ensures.run

pub returns-in-Ok-clause-told : goal.returns-in-Ok-clause-told
returns-in-Ok-clause-told g c =
    let s = c.args.self.now in
    let state = g.D.Device.state in
    let same = same_states 32 (states_of state s.bay) (states_of state c.last_run.new.bay) c.in-Ok.ensures.same in
    on_ok c.take_number.result (told_across IsOfWorker _ state s (record s { bay = c.last_run.new.bay; history = c.reserve.new.self }) c.take_number.new.self c.reserve.ensures.events refl same) c.take_number.ensures.told

pub returns-in-Ok-clause-still : goal.returns-in-Ok-clause-still
returns-in-Ok-clause-still g c = moved_stays c.args.self.now c.take_number.new.self c.take_number.result c.take_number.ensures.moved

pub returns-in-Err-clause-run : goal.returns-in-Err-clause-run
returns-in-Err-clause-run g c = on_ok3 c.stop_by.result (λ e k t. ends_early g.D.Device.state c.args.self.now c.stop_by.new.self c.in-Err.trouble (behind _ e c.reserve.ensures.events) k c.stop_by.ensures.fixed.programs (inl c.requires) t c.last_run.new.bay c.stop_by.ensures.bay c.in-Err.ensures.refused)
    c.stop_by.ensures.events c.stop_by.ensures.core c.stop_by.ensures.told

pub returns-in-Err-clause-told : goal.returns-in-Err-clause-told
returns-in-Err-clause-told g c = on_ok2 c.stop_by.result (λ e t. tells_end g.D.Device.state c.args.self.now c.stop_by.new.self c.in-Err.trouble (behind _ e c.reserve.ensures.events) ℕ _ c.last_run.new.bay c.stop_by.ensures.bay t (no_write ℕ _ _ _ c.in-Err.trouble c.in-Err.ensures.cause))
    c.stop_by.ensures.events c.stop_by.ensures.told

pub returns-in-Err-clause-still : goal.returns-in-Err-clause-still
returns-in-Err-clause-still g c = moved_stays c.args.self.now c.stop_by.new.self c.stop_by.result c.stop_by.ensures.moved

pub returns-in-Err-clause-lowers : goal.returns-in-Err-clause-lowers
returns-in-Err-clause-lowers g c = c.stop_by.ensures.lowers (ap is_over c.requires)

pub returns-in-Ok-clause-accounted : goal.returns-in-Ok-clause-accounted
returns-in-Ok-clause-accounted g c =
    let s = c.args.self.now in
    let state = g.D.Device.state in
    let same = same_states 32 (states_of state s.bay) (states_of state c.last_run.new.bay) c.in-Ok.ensures.same in
    on_ok c.take_number.result (across state s (record s { bay = c.last_run.new.bay; history = c.reserve.new.self }) c.take_number.new.self c.reserve.ensures.events refl same) c.take_number.ensures.accounted

pub returns-in-Err-clause-spared : goal.returns-in-Err-clause-spared
returns-in-Err-clause-spared g c = spared_by g.D.Device.state c.args.self.now _ c.stop_by.new.self c.stop_by.result c.in-Err.trouble c.stop_by.ensures.refused (memory_is_calm c.stop_by.result c.in-Err.trouble c.stop_by.ensures.memory) refl refl c.reserve.ensures.events refl c.in-Err.ensures.spared

pub returns-in-Ok-clause-spared : goal.returns-in-Ok-clause-spared
returns-in-Ok-clause-spared g c = spared_behind g.D.Device.state c.args.self.now _ c.take_number.new.self c.take_number.result c.take_number.ensures.spared refl refl c.reserve.ensures.events refl (same_states 32 _ _ c.in-Ok.ensures.same)
