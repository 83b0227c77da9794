use Rattle.std.proofs.Common.{arith, [], ◌∷◌, ◌≡◌, List, ℕ, Some, ap, refl, ◌∙◌, ◌+◌, slice_get}
use Rattle.std.specs.Prelude.{slice_set}
use Rattle.filemap.specs.Rows.{place_of, extended}
use Rattle.filemap.specs.Maps.{rows_of}
use Rattle.node_device.specs.Rack.{states_of}
use Rattle.ckpt_model.specs.declared.event.Event.TheVariants as event
use Rattle.scr_base.specs.declared.answers.Reply.TheVariants as reply
use Rattle.scr_base.specs.declared.content.Step.TheVariants as step
use Rattle.round_core.specs.Seats.{stepped}
use Rattle.site_state.specs.Choosing.{rows_at}
use Rattle.site_state.specs.Cores.{with_rows, with_open}
use Rattle.site_state.specs.declared.run_state.RunState.{RunState}
use Rattle.site_core.proofs.Told.{appended, behind}
use Rattle.site_state.proofs.LocalCalls.{clear_write}
use Rattle.site_core.proofs.LocalSteps.{write_told, hand_opened, lead_on}
use Rattle.site_calls.proofs.Telling.{on_ok2}
use Rattle.site_core.proofs.LocalRefusals.{keeps_put}
use Rattle.site_core.proofs.AheadCores.{stepped_run}
use Rattle.site_core.proofs.InOrder.{stepped_order}
use Rattle.site_core.specs.Follows.{carried}
use Rattle.site_core.proofs.Accounts.{well_then, refusal_told, carries_same}
use Rattle.std.proofs.Common.{length, sym, subst}
use Rattle.member_store.specs.Names.{part_name}
use Rattle.site_state.specs.Cores.{IsSpot}
use Rattle.scr_base.specs.Bytes.{bytes_for}
use Rattle.site_calls.specs.Writes.{IsWrite}
use Rattle.site_core.proofs.Fulls.{passes_this, file_write, step_writes, step_full}
use Rattle.site_core.proofs.Sparing.{spared_by, memory_is_calm}
use Rattle.site_core.proofs.site.Site.write.Goals as goal

pub end_of-end-requires : goal.end_of-end-requires
end_of-end-requires g c = (clear_write c.args.self.now.core c.args.rank c.args.word c.args.at c.args.content c.requires.clear).short

pub returns-in-Ok-clause-run : goal.returns-in-Ok-clause-run
returns-in-Ok-clause-run g c = λ tells first base follows.
    let s = c.args.self.now in
    let state = g.D.Device.state in
    let n = c.requires.next in
    let rank = c.args.rank in
    let after = c.go_past.new.self in
    let m = c.in-Some.ensures.set in
    let file = c.number_of-file.result in
    let here : slice_get c.extend.new.self.ranks rank ≡ Some n.seat = ap (λ (x : RunState). slice_get x.ranks rank) c.extend.ensures.rest ∙ n.is in
    let number = c.number_of-file.ensures.number ∙ ap (λ (w : List ℕ). place_of (rows_at s.core rank) w) c.bytes.ensures.value in
    let e = event.Local rank (n.seat.number + 1) (step.Write c.args.word c.args.at c.args.content) reply.Done in
    let more = appended after.history.events c.reserve.new.self.events s.history.events e e (c.go_past.ensures.events n.seat here) c.reserve.ensures.events refl in
    let opened = hand_opened s.core m (clear_write s.core rank c.args.word c.args.at c.args.content c.requires.clear).output c.in-Some.ensures.hand in
    let core = c.go_past.ensures.core n.seat here
    ∙ ap (λ (x : RunState). let y : RunState = record x { ranks = slice_set x.ranks rank (stepped n.seat) } in y) (c.extend.ensures.ok m opened) in
    lead_on first (with_open s.core (with_rows m rank (extended (rows_of m.files rank) file c.end_of-end.result)) (slice_set s.core.ranks rank (stepped n.seat))) after.core s.programs after.programs (states_of state c.put_part.new.bay) (states_of state after.bay) after.history.events
    core c.go_past.ensures.fixed.programs (ap (states_of state) c.go_past.ensures.bay)
    (write_told first s.core s.programs (states_of state s.bay) (states_of state c.put_part.new.bay) s.history.events after.history.events rank file c.args.word c.args.at c.args.content c.list.result.now c.end_of-end.result c.in-Some.spot
    c.requires.stage n c.requires.clear c.in-Some.ensures number c.number_of-file.ensures.rows (c.list.ensures ∙ c.in_ok-bytes.ensures) c.end_of-end.ensures c.in-Ok.ensures.written tells more follows)

pub returns-in-Ok-clause-told : goal.returns-in-Ok-clause-told
returns-in-Ok-clause-told g c =
    let s = c.args.self.now in
    let n = c.requires.next in
    let here : slice_get c.extend.new.self.ranks c.args.rank ≡ Some n.seat = ap (λ (x : RunState). slice_get x.ranks c.args.rank) c.extend.ensures.rest ∙ n.is in
    let e = event.Local c.args.rank (n.seat.number + 1) (step.Write c.args.word c.args.at c.args.content) reply.Done in
    record { told = e ∷ []; few = omega arith; is = appended c.go_past.new.self.history.events c.reserve.new.self.events s.history.events e e (c.go_past.ensures.events n.seat here) c.reserve.ensures.events refl; own = (refl, tt); caused = (tt, tt) }

pub returns-clause-run : goal.returns-clause-run
returns-clause-run g c = on_ok2 c.refuse_local.result (λ e k.
    let s = c.args.self.now in
    let n = c.requires.next in
    let x = e n.seat n.is in
    let l = event.Local c.args.rank (n.seat.number + 1) (step.Write c.args.word c.args.at c.args.content) (reply.Refused x.0) in
    keeps_put g.D.Device.state s c.refuse_local.new.self c.put_part.new.bay c.args.rank (step.Write c.args.word c.args.at c.args.content) c.in-Err.trouble x.0 n.seat c.refuse_local.ensures.bay x.1 n.is
    (appended c.refuse_local.new.self.history.events c.reserve.new.self.events s.history.events l l x.2 c.reserve.ensures.events refl) (k n.seat n.is) c.refuse_local.ensures.fixed.programs c.requires.stage n c.requires.clear refl
    c.number_of-file.result c.in-Some.spot ((clear_write s.core c.args.rank c.args.word c.args.at c.args.content c.requires.clear).output) c.in-Some.ensures c.number_of-file.ensures.within c.in-Err.ensures.refused)
    c.refuse_local.ensures.events c.refuse_local.ensures.core

pub returns-in-Ok-clause-lowers : goal.returns-in-Ok-clause-lowers
returns-in-Ok-clause-lowers g c = stepped_run c.args.self.now c.go_past.new.self c.extend.new.self c.args.rank (step.Write c.args.word c.args.at c.args.content) c.requires.next c.requires.stage (ap (λ (x : RunState). x.stage) c.extend.ensures.rest ∙ c.requires.stage) (ap (λ (x : RunState). x.shape) c.extend.ensures.rest) (ap (λ (x : RunState). x.ranks) c.extend.ensures.rest) c.go_past.ensures.fixed.programs c.go_past.ensures.core

pub returns-clause-lowers : goal.returns-clause-lowers
returns-clause-lowers g c = c.refuse_local.ensures.lowers c.requires.stage c.requires.next

pub returns-in-Ok-clause-order : goal.returns-in-Ok-clause-order
returns-in-Ok-clause-order g c = stepped_order c.args.self.now c.go_past.new.self c.extend.new.self c.args.rank (step.Write c.args.word c.args.at c.args.content) c.requires.next (ap (λ (x : RunState). x.ranks) c.extend.ensures.rest) c.go_past.ensures.fixed.programs c.go_past.ensures.core

pub returns-clause-order : goal.returns-clause-order
returns-clause-order g c = c.refuse_local.ensures.order c.requires.next

pub returns-in-Ok-clause-accounted : goal.returns-in-Ok-clause-accounted
returns-in-Ok-clause-accounted g c =
    let s = c.args.self.now in
    let n = c.requires.next in
    let here : slice_get c.extend.new.self.ranks c.args.rank ≡ Some n.seat = ap (λ (x : RunState). slice_get x.ranks c.args.rank) c.extend.ensures.rest ∙ n.is in
    well_then c.put_part.new.bay c.go_past.ensures.bay c.in-Ok.ensures.cause (carries_same s.core c.go_past.new.self.core (ap carried (c.go_past.ensures.core n.seat here) ∙ ap carried c.extend.ensures.rest))

pub returns-clause-accounted : goal.returns-clause-accounted
returns-clause-accounted g c = on_ok2 c.refuse_local.result (λ e k.
    let s = c.args.self.now in
    let n = c.requires.next in
    let x = e n.seat n.is in
    refusal_told g.D.Device.state s c.refuse_local.new.self c.put_part.new.bay c.refuse_local.ensures.bay (Unit {0}) _ c.in-Err.trouble x.0 c.args.rank (n.seat.number + 1) (step.Write c.args.word c.args.at c.args.content) x.1 c.in-Err.ensures.cause (behind _ x.2 c.reserve.ensures.events) (carries_same s.core c.refuse_local.new.self.core (ap carried (k n.seat n.is))))
    c.refuse_local.ensures.events c.refuse_local.ensures.core

pub returns-in-Ok-clause-full : goal.returns-in-Ok-clause-full
returns-in-Ok-clause-full g c = λ p a k n w passes.
    let s = c.args.self.now in
    let rank = c.args.rank in
    let spot = c.in-Some.spot in
    let call = step.Write c.args.word c.args.at c.args.content in
    let name = part_name spot.which spot.node spot.part in
    let number = c.number_of-file.ensures.number ∙ ap (λ (x : List ℕ). place_of (rows_at s.core rank) x) c.bytes.ensures.value in
    let f = file_write s.core rank (place_of (rows_at s.core rank) c.args.word) c.args.at (length (bytes_for c.args.content rank)) spot p n a k (subst (λ (x : ℕ). IsSpot s.core rank x spot) number c.in-Some.ensures) (step_writes s.programs s.core rank call p n a k c.requires.next w) in
    let bytes = c.list.ensures ∙ c.in_ok-bytes.ensures in
    absurd (c.in-Ok.ensures.fits (passes_this (states_of g.D.Device.state s.bay) spot.place name c.args.at (length c.list.result.now) p n a k (f.0, f.1, f.2, f.3 ∙ ap (λ (x : List ℕ). length x) (sym bytes)) passes))

pub returns-clause-full : goal.returns-clause-full
returns-clause-full g c = on_ok2 c.refuse_local.result (λ e core p a k n w passes.
    let s = c.args.self.now in
    let rank = c.args.rank in
    let spot = c.in-Some.spot in
    let next = c.requires.next in
    let x = e next.seat next.is in
    let call = step.Write c.args.word c.args.at c.args.content in
    let name = part_name spot.which spot.node spot.part in
    let number = c.number_of-file.ensures.number ∙ ap (λ (y : List ℕ). place_of (rows_at s.core rank) y) c.bytes.ensures.value in
    let f = file_write s.core rank (place_of (rows_at s.core rank) c.args.word) c.args.at (length (bytes_for c.args.content rank)) spot p n a k (subst (λ (y : ℕ). IsSpot s.core rank y spot) number c.in-Some.ensures) (step_writes s.programs s.core rank call p n a k next w) in
    step_full g.D.Device.state s c.refuse_local.new.self c.put_part.new.bay (Unit {0}) (IsWrite spot.place name c.args.at (length c.list.result.now)) p (λ q m y z this. this.0 ∙ sym f.0) c.in-Err.trouble x.0 rank (next.seat.number + 1) call x.1 c.in-Err.ensures.cause (behind _ x.2 c.reserve.ensures.events))
    c.refuse_local.ensures.events c.refuse_local.ensures.core

pub returns-clause-spared : goal.returns-clause-spared
returns-clause-spared g c = spared_by g.D.Device.state c.args.self.now _ c.refuse_local.new.self c.refuse_local.result c.in-Err.trouble c.refuse_local.ensures.refused (memory_is_calm c.refuse_local.result c.in-Err.trouble c.refuse_local.ensures.memory) refl refl c.reserve.ensures.events refl c.in-Err.ensures.spared
