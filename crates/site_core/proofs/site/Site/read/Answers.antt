use Rattle.std.proofs.Common.{Err, ◌∷◌, [], arith, refl, subst, true, ◌≡◌, List, ℕ, Some, min, take, drop, length, ap, sym, ◌∙◌, ◌+◌, ◌-◌, slice_get}
use Rattle.std.specs.Prelude.{slice_set}
use Rattle.std.proofs.lemmas.Option.{slice_get-get_or}
use Rattle.filemap.specs.Rows.{place_of}
use Rattle.filemap.specs.declared.rows.FileRow.{FileRow}
use Rattle.member_store.specs.Names.{part_name}
use Rattle.node_device.specs.File.{bytes_of}
use Rattle.node_device.specs.Rack.{states_of}
use Rattle.ckpt_model.specs.declared.event.Event.TheVariants as event
use Rattle.scr_base.specs.declared.answers.Reply.TheVariants as reply
use Rattle.scr_base.specs.declared.content.Step.TheVariants as step
use Rattle.round_core.specs.Seats.{stepped}
use Rattle.site_state.specs.Choosing.{rows_at}
use Rattle.site_state.specs.declared.run_state.RunState.{RunState}
use Rattle.site_state.proofs.LocalCalls.{front_is}
use Rattle.site_core.proofs.LocalSteps.{read_told, same_states, lead_on}
use Rattle.scr_base.specs.declared.answers.Refusal.{Refusal}
use Rattle.scr_base.specs.declared.answers.Refusal.TheVariants as refusal
use Rattle.ckpt_model.specs.Answers.{may_fault_local}
use Rattle.site_calls.specs.declared.trouble.Trouble.{Trouble}
use Rattle.site_calls.specs.declared.trouble.Trouble.TheVariants as error
use Rattle.site_calls.specs.Causes.{CallCause}
use Rattle.site_calls.specs.Writes.{IsNoWrite}
use Rattle.site_calls.proofs.Telling.{on_ok2}
use Rattle.site_core.proofs.LocalRefusals.{keeps_get}
use Rattle.site_core.proofs.AheadCores.{stepped_run}
use Rattle.site_core.proofs.InOrder.{stepped_order}
use Rattle.site_core.proofs.Told.{behind}
use Rattle.site_core.specs.Follows.{carried}
use Rattle.site_core.proofs.Accounts.{well_then, refusal_told, carries_same}
use Rattle.site_core.proofs.site.Site.read.Goals as goal

pub returns-in-Ok-get_part-clause-run : goal.returns-in-Ok-get_part-clause-run
returns-in-Ok-get_part-clause-run g c = λ tells first base follows.
    let s = c.args.self.now in
    let state = g.D.Device.state in
    let n = c.requires.next in
    let rank = c.args.rank in
    let at = c.args.at in
    let len = c.args.len in
    let file = c.number_of-file.result in
    let row = c.in-Some.row.now in
    let spot = c.in-Some-spot.spot in
    let after = c.go_past.new.self in
    let number = c.number_of-file.ensures.number ∙ ap (λ (w : List ℕ). place_of (rows_at s.core rank) w) c.bytes.ensures.value in
    let row_is : slice_get (rows_at s.core rank) file ≡ Some row = ap (λ (rs : List FileRow). slice_get rs file) (sym c.rows_at.ensures.value) ∙ slice_get-get_or c.rows_at.result.now file row c.in-Some.ensures.lookup.3.0 ∙ ap (λ (r : FileRow). Some r) (sym c.in-Some.ensures.lookup.1) in
    let there = bytes_of ((states_of state s.bay spot.place).file (part_name spot.which spot.node spot.part)).now in
    let told : c.get_part.new.into ≡ take (length c.deref_mut.result.now) (drop c.min-from.result there) = c.in-Ok-get_part.ensures.bytes (tells spot.place (omega (arith, c.in-Some-spot.ensures.low))) in
    let count : length c.deref_mut.result.now ≡ min len (row.len - at) = c.deref_mut.ensures.len ∙ c.in-Ok.ensures.len ∙ c.min-count.ensures ∙ ap (λ (k : ℕ). min len k) c.saturating_sub.ensures in
    let text : c.of-bytes.result ≡ take (min len (row.len - at)) (drop (min at row.len) there) =
    c.of-bytes.ensures ∙ front_is c.in-Ok.bytes.len c.get_part.new.into (drop (length c.get_part.new.into) c.in-Ok.bytes.items) (c.in-Ok.bytes.ok.0 ∙ ap length (sym c.deref_mut.ensures.value) ∙ sym c.get_part.auto.into) ∙ told ∙ ap (λ (k : ℕ). take k (drop c.min-from.result there)) count ∙ ap (λ (k : ℕ). take (min len (row.len - at)) (drop k there)) c.min-from.ensures in
    lead_on first (let x : RunState = record s.core { ranks = slice_set s.core.ranks rank (stepped n.seat) } in x) after.core s.programs after.programs (states_of state s.bay) (states_of state after.bay) after.history.events
    (c.go_past.ensures.core n.seat n.is) c.go_past.ensures.fixed.programs
    (ap (states_of state) c.go_past.ensures.bay ∙ same_states spot.place (states_of state s.bay) (states_of state c.get_part.new.bay) c.in-Ok-get_part.ensures.same)
    (read_told first s.core s.programs (states_of state s.bay) s.history.events after.history.events rank file c.args.word at len spot row c.of-bytes.result
    c.requires.stage n c.requires.clear c.in-Some-spot.ensures number row_is text follows (behind _ (c.go_past.ensures.events n.seat n.is) c.reserve.ensures.events))

pub returns-in-Ok-get_part-clause-told : goal.returns-in-Ok-get_part-clause-told
returns-in-Ok-get_part-clause-told g c =
    let n = c.requires.next in
    let e = event.Local c.args.rank (n.seat.number + 1) (step.Read c.args.word c.args.at c.args.len) (reply.Bytes c.of-bytes.result) in
    record { told = e ∷ []; few = omega arith; is = behind _ (c.go_past.ensures.events n.seat n.is) c.reserve.ensures.events; own = (refl, tt); caused = (tt, tt) }

some_refusal : (x y : Refusal) → Some x ≡ Some y → x ≡ y
some_refusal x y q = cc

may_so : (node count : ℕ) (r : Refusal) (name : List ℕ) (at len : ℕ) → Some (refusal.Device node count) ≡ Some r → may_fault_local (step.Read name at len) (reply.Refused r) ≡ true
may_so node count r name at len is = subst (λ (x : Refusal). may_fault_local (step.Read name at len) (reply.Refused x) ≡ true) (some_refusal (refusal.Device node count) r is) refl

pub returns-in-Err-Fault-clause-run : goal.returns-in-Err-Fault-clause-run
returns-in-Err-Fault-clause-run g c = on_ok2 c.refuse_local.result (λ e k.
    let s = c.args.self.now in
    let n = c.requires.next in
    let x = e n.seat n.is in
    let node = c.in-Err-Fault.node in
    let count = c.in-Err-Fault.count in
    keeps_get g.D.Device.state s c.refuse_local.new.self c.get_part.new.bay c.args.rank (step.Read c.args.word c.args.at c.args.len) (error.Fault node count) x.0 n.seat c.refuse_local.ensures.bay x.1 n.is
    (behind _ x.2 c.reserve.ensures.events) (k n.seat n.is) c.refuse_local.ensures.fixed.programs c.requires.stage n c.requires.clear (may_so node count x.0 c.args.word c.args.at c.args.len x.1) c.in-Some-spot.spot.place c.in-Err-Fault.ensures.refused)
    c.refuse_local.ensures.events c.refuse_local.ensures.core

pub returns-in-Ok-get_part-clause-accounted : goal.returns-in-Ok-get_part-clause-accounted
returns-in-Ok-get_part-clause-accounted g c =
    let s = c.args.self.now in
    let n = c.requires.next in
    well_then c.get_part.new.bay c.go_past.ensures.bay c.in-Ok-get_part.ensures.cause (carries_same s.core c.go_past.new.self.core (ap carried (c.go_past.ensures.core n.seat n.is)))

pub returns-in-Err-Fault-clause-accounted : goal.returns-in-Err-Fault-clause-accounted
returns-in-Err-Fault-clause-accounted g c = on_ok2 c.refuse_local.result (λ e k.
    let s = c.args.self.now in
    let n = c.requires.next in
    let x = e n.seat n.is in
    refusal_told g.D.Device.state s c.refuse_local.new.self c.get_part.new.bay c.refuse_local.ensures.bay (Unit {0}) IsNoWrite (error.Fault c.in-Err-Fault.node c.in-Err-Fault.count) x.0 c.args.rank (n.seat.number + 1) (step.Read c.args.word c.args.at c.args.len) x.1 (subst (λ (t : Trouble). CallCause {T = Unit {0}} IsNoWrite (states_of g.D.Device.state s.bay) (states_of g.D.Device.state c.get_part.new.bay) (Err t)) c.in-Err-Fault.field-0-is c.in-Err-Fault.ensures.cause) (behind _ x.2 c.reserve.ensures.events) (carries_same s.core c.refuse_local.new.self.core (ap carried (k n.seat n.is))))
    c.refuse_local.ensures.events c.refuse_local.ensures.core

pub returns-in-Ok-get_part-clause-lowers : goal.returns-in-Ok-get_part-clause-lowers
returns-in-Ok-get_part-clause-lowers g c = stepped_run c.args.self.now c.go_past.new.self c.args.self.now.core c.args.rank (step.Read c.args.word c.args.at c.args.len) c.requires.next c.requires.stage c.requires.stage refl refl c.go_past.ensures.fixed.programs c.go_past.ensures.core

pub returns-in-Err-Fault-clause-lowers : goal.returns-in-Err-Fault-clause-lowers
returns-in-Err-Fault-clause-lowers g c = c.refuse_local.ensures.lowers c.requires.stage c.requires.next

pub returns-in-Ok-get_part-clause-order : goal.returns-in-Ok-get_part-clause-order
returns-in-Ok-get_part-clause-order g c = stepped_order c.args.self.now c.go_past.new.self c.args.self.now.core c.args.rank (step.Read c.args.word c.args.at c.args.len) c.requires.next refl c.go_past.ensures.fixed.programs c.go_past.ensures.core

pub returns-in-Err-Fault-clause-order : goal.returns-in-Err-Fault-clause-order
returns-in-Err-Fault-clause-order g c = c.refuse_local.ensures.order c.requires.next
