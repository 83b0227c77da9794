use Rattle.std.proofs.Common.{arith, ◌∙◌, [], map, filter, ap, sym, refl}
use Rattle.ckpt_model.specs.declared.event.Event.TheVariants as event
use Rattle.node_device.specs.Rack.{states_of}
use Rattle.site_state.specs.Shown.{row_of}
use Rattle.site_core.specs.Causes.{cause_of}
use Rattle.site_state.specs.Looks.{is_standing, found_member}
use Rattle.site_state.specs.Cores.{recovered, seen_core}
use Rattle.site_core.specs.Follows.{IsOfWorker}
use Rattle.site_core.proofs.Told.{appended}
use Rattle.site_calls.proofs.Telling.{same_states, on_ok, on_ok2, on_ok3}
use Rattle.site_core.proofs.LocalSteps.{lead_on}
use Rattle.site_calls.proofs.CallCauses.{no_write}
use Rattle.site_core.proofs.Turns.{ends_looking, tells_end, tells_one, moved_stays}
use Rattle.site_core.proofs.Seen.{seen}
use Rattle.site_state.specs.Waiting.{is_over}
use Rattle.site_core.proofs.Sparing.{spared_by, memory_is_calm}
use Rattle.site_core.proofs.Sparing.{spared_behind}
use Rattle.site_core.proofs.site.Site.look.Goals as goal

pub returns-in-Ok-clause-run : goal.returns-in-Ok-clause-run
returns-in-Ok-clause-run g c = on_ok2 c.find.result (λ k e tells first base f.
    let s = c.args.self.now in
    let state = g.D.Device.state in
    let place = c.in-Some.place in
    let kept = map found_member (filter is_standing c.in-Ok.members.items) in
    let after = c.find.new.self in
    let same = same_states place (states_of state s.bay) (states_of state c.members_at.new.bay) c.in-Ok.ensures.same in
    let told = appended after.history.events c.reserve.new.self.events s.history.events (event.Found (map row_of kept) []) (event.Found (map row_of kept) []) e c.reserve.ensures.events refl in
    let l = seen first s.core s.programs (states_of state s.bay) s.history.events after.history.events place c.in-Ok.members.items kept c.requires (sym c.of_node.ensures.place ∙ c.in-Some.is) (c.in-Ok.ensures.members (tells place (omega (arith, c.in-Some.ensures.low)))) refl told f in
    lead_on first (recovered (seen_core s.core kept)) after.core s.programs after.programs (states_of state s.bay) (states_of state after.bay) after.history.events k c.find.ensures.fixed.programs (ap (states_of state) c.find.ensures.bay ∙ same) l)
    c.find.ensures.found c.find.ensures.events

pub returns-in-Ok-clause-told : goal.returns-in-Ok-clause-told
returns-in-Ok-clause-told g c = on_ok c.find.result (λ e.
    let s = c.args.self.now in
    let kept = map found_member (filter is_standing c.in-Ok.members.items) in
    tells_one IsOfWorker _ g.D.Device.state s c.find.new.self (event.Found (map row_of kept) []) (appended c.find.new.self.history.events c.reserve.new.self.events s.history.events (event.Found (map row_of kept) []) (event.Found (map row_of kept) []) e c.reserve.ensures.events refl) tt tt)
    c.find.ensures.events

pub returns-in-Ok-clause-still : goal.returns-in-Ok-clause-still
returns-in-Ok-clause-still g c = moved_stays c.args.self.now c.find.new.self c.find.result c.find.ensures.moved

pub returns-in-Err-clause-run : goal.returns-in-Err-clause-run
returns-in-Err-clause-run g c = on_ok3 c.stop_by.result (λ e k t. ends_looking g.D.Device.state c.args.self.now c.stop_by.new.self c.in-Err.trouble (appended c.stop_by.new.self.history.events c.reserve.new.self.events c.args.self.now.history.events (event.Stop (cause_of c.in-Err.trouble)) (event.Stop (cause_of c.in-Err.trouble)) e c.reserve.ensures.events refl) k c.stop_by.ensures.fixed.programs c.requires t c.in-Some.place c.members_at.new.bay c.stop_by.ensures.bay c.in-Err.ensures.refused)
    c.stop_by.ensures.events c.stop_by.ensures.core c.stop_by.ensures.told

pub returns-in-Err-clause-told : goal.returns-in-Err-clause-told
returns-in-Err-clause-told g c = on_ok2 c.stop_by.result (λ e t. tells_end g.D.Device.state c.args.self.now c.stop_by.new.self c.in-Err.trouble (appended c.stop_by.new.self.history.events c.reserve.new.self.events c.args.self.now.history.events (event.Stop (cause_of c.in-Err.trouble)) (event.Stop (cause_of c.in-Err.trouble)) e c.reserve.ensures.events refl) (Unit {0}) _ c.members_at.new.bay c.stop_by.ensures.bay t (no_write (Unit {0}) _ _ _ c.in-Err.trouble c.in-Err.ensures.cause))
    c.stop_by.ensures.events c.stop_by.ensures.told

pub returns-in-Err-clause-still : goal.returns-in-Err-clause-still
returns-in-Err-clause-still g c = moved_stays c.args.self.now c.stop_by.new.self c.stop_by.result c.stop_by.ensures.moved

pub returns-in-Ok-clause-lowers : goal.returns-in-Ok-clause-lowers
returns-in-Ok-clause-lowers g c = c.find.ensures.lowers c.requires

pub returns-in-Err-clause-lowers : goal.returns-in-Err-clause-lowers
returns-in-Err-clause-lowers g c = c.stop_by.ensures.lowers (ap is_over c.requires)

pub returns-in-Err-clause-spared : goal.returns-in-Err-clause-spared
returns-in-Err-clause-spared g c = spared_by g.D.Device.state c.args.self.now _ c.stop_by.new.self c.stop_by.result c.in-Err.trouble c.stop_by.ensures.refused (memory_is_calm c.stop_by.result c.in-Err.trouble c.stop_by.ensures.memory) refl refl c.reserve.ensures.events refl c.in-Err.ensures.spared

pub returns-in-Ok-clause-spared : goal.returns-in-Ok-clause-spared
returns-in-Ok-clause-spared g c = spared_behind g.D.Device.state c.args.self.now _ c.find.new.self c.find.result c.find.ensures.spared refl refl c.reserve.ensures.events refl (same_states _ _ _ c.in-Ok.ensures.same)
