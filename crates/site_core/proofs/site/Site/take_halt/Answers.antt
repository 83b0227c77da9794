use Rattle.std.proofs.Common.{refl}
use Rattle.std.proofs.Common.{◌+◌, ◌<◌, ◌^◌, ℕ, List, sym, ap, subst, arith, inl}
use Rattle.node_device.specs.DeviceState.{DeviceState}
use Rattle.node_device.specs.Rack.{states_of}
use Rattle.site_state.specs.declared.run_state.RunState.{RunState}
use Rattle.site_core.specs.Holds.{Leads}
use Rattle.site_core.proofs.Numbering.{numbered, numbered_core}
use Rattle.site_calls.proofs.Telling.{same_states, on_ok2, on_ok3}
use Rattle.site_calls.proofs.CallCauses.{no_write}
use Rattle.site_core.proofs.Turns.{ends_early, tells_end, moved_stays}
use Rattle.round_core.specs.declared.seat.Seat.{Seat}
use Rattle.site_state.specs.Ahead.{ahead}
use Rattle.site_state.specs.Order.{IsInOrder}
use Rattle.site_state.specs.Waiting.{is_over}
use Rattle.site_core.proofs.Accounts.{end_told, carries_none}
use Rattle.site_state.proofs.AheadCores.{numbered_lower}
use Rattle.site_core.proofs.Sparing.{spared_by, memory_is_calm}
use Rattle.site_core.proofs.site.Site.take_halt.Goals as goal

pub returns-in-Ok-clause-run : goal.returns-in-Ok-clause-run
returns-in-Ok-clause-run g c = λ tells first base f.
    let s = c.args.self.now in
    let state = g.D.Device.state in
    let states = states_of state s.bay in
    let n = c.args.last in
    let fits : n + 1 < 2 ^ 32 = omega (arith, c.requires.more) in
    let same = same_states 32 states (states_of state c.halt_now.new.bay) c.in-Ok.ensures.same in
    subst (λ (x : RunState). Leads first x s.programs (states_of state c.halt_now.new.bay) s.history.events) (sym c.number.ensures)
    (subst (λ (st : ℕ → DeviceState). Leads first (numbered_core s.core (n + 1) c.in-Ok.halt) s.programs st s.history.events) (sym same)
    (numbered first s.core s.programs states s.history.events n c.in-Ok.halt c.requires.stage fits (c.requires.last tells) (c.in-Ok.ensures.halt (tells 32 (omega arith))) f))

pub returns-in-Err-clause-run : goal.returns-in-Err-clause-run
returns-in-Err-clause-run g c = on_ok3 c.stop_by.result (λ e k t. ends_early g.D.Device.state c.args.self.now c.stop_by.new.self c.in-Err.trouble e k c.stop_by.ensures.fixed.programs (inl c.requires.stage) t c.halt_now.new.bay c.stop_by.ensures.bay c.in-Err.ensures.refused)
    c.stop_by.ensures.events c.stop_by.ensures.core c.stop_by.ensures.told

pub returns-in-Err-clause-told : goal.returns-in-Err-clause-told
returns-in-Err-clause-told g c = on_ok2 c.stop_by.result (λ e t. tells_end g.D.Device.state c.args.self.now c.stop_by.new.self c.in-Err.trouble e ℕ _ c.halt_now.new.bay c.stop_by.ensures.bay t (no_write ℕ _ _ _ c.in-Err.trouble c.in-Err.ensures.cause))
    c.stop_by.ensures.events c.stop_by.ensures.told

pub returns-in-Err-clause-still : goal.returns-in-Err-clause-still
returns-in-Err-clause-still g c = moved_stays c.args.self.now c.stop_by.new.self c.stop_by.result c.stop_by.ensures.moved

pub returns-in-Ok-clause-lowers : goal.returns-in-Ok-clause-lowers
returns-in-Ok-clause-lowers g c =
    let s = c.args.self.now in
    subst (λ (x : RunState). ahead x s.programs < ahead s.core s.programs) (sym c.number.ensures) (numbered_lower s.core s.programs (c.args.last + 1) c.in-Ok.halt c.requires.stage)

pub returns-in-Ok-clause-order : goal.returns-in-Ok-clause-order
returns-in-Ok-clause-order g c = λ order.
    let s = c.args.self.now in
    subst (λ (rs : List Seat). IsInOrder s.programs rs) (sym (ap (λ (x : RunState). x.ranks) c.number.ensures)) order

pub returns-in-Err-clause-lowers : goal.returns-in-Err-clause-lowers
returns-in-Err-clause-lowers g c = c.stop_by.ensures.lowers (ap is_over c.requires.stage)

pub returns-in-Err-clause-accounted : goal.returns-in-Err-clause-accounted
returns-in-Err-clause-accounted g c = on_ok3 c.stop_by.result (λ e k t.
    let s = c.args.self.now in
    end_told g.D.Device.state s c.stop_by.new.self c.halt_now.new.bay c.stop_by.ensures.bay ℕ _ c.in-Err.trouble t c.in-Err.ensures.cause e (carries_none s.core c.stop_by.new.self.core k))
    c.stop_by.ensures.events c.stop_by.ensures.core c.stop_by.ensures.told

pub returns-in-Err-clause-spared : goal.returns-in-Err-clause-spared
returns-in-Err-clause-spared g c = spared_by g.D.Device.state c.args.self.now _ c.stop_by.new.self c.stop_by.result c.in-Err.trouble c.stop_by.ensures.refused (memory_is_calm c.stop_by.result c.in-Err.trouble c.stop_by.ensures.memory) refl refl refl refl c.in-Err.ensures.spared
