use Rattle.std.proofs.Common.{arith, [], ◌∷◌, ◌≡◌, List, ℕ, Some, ap, refl, ◌∙◌, ◌+◌, slice_get}
use Rattle.std.specs.Prelude.{slice_set}
use Rattle.filemap.specs.Rows.{place_of, routed}
use Rattle.filemap.specs.Maps.{rows_of}
use Rattle.node_device.specs.Rack.{states_of}
use Rattle.ckpt_model.specs.declared.event.Event.TheVariants as event
use Rattle.scr_base.specs.declared.answers.Reply.TheVariants as reply
use Rattle.scr_base.specs.declared.content.Step.TheVariants as step
use Rattle.round_core.specs.Seats.{stepped}
use Rattle.site_state.specs.Choosing.{rows_at}
use Rattle.site_state.specs.Cores.{with_rows, with_open}
use Rattle.site_state.specs.declared.run_state.RunState.{RunState}
use Rattle.site_core.proofs.Told.{appended, behind}
use Rattle.site_state.proofs.LocalCalls.{clear_new}
use Rattle.site_core.proofs.LocalSteps.{route_told, hand_opened, lead_on}
use Rattle.site_calls.proofs.Telling.{on_ok2}
use Rattle.site_core.proofs.LocalRefusals.{keeps_put}
use Rattle.site_core.proofs.AheadCores.{stepped_run}
use Rattle.site_core.proofs.InOrder.{stepped_order}
use Rattle.site_core.specs.Follows.{carried}
use Rattle.site_core.proofs.Accounts.{well_then, refusal_told, carries_same}
use Rattle.std.proofs.Common.{sym, subst}
use Rattle.member_store.specs.Names.{part_name}
use Rattle.site_state.specs.Cores.{IsSpot}
use Rattle.site_calls.specs.Writes.{IsWrite}
use Rattle.site_core.proofs.Fulls.{passes_this, file_write, step_writes, step_full}
use Rattle.std.proofs.Common.{OnOk, length}
use Rattle.std.specs.Prelude.{IfOk}
use Rattle.site_state.specs.declared.turn.Turn.{Turn}
use Rattle.site_core.specs.Ahead.{Lowers}
use Rattle.site_core.specs.Order.{KeepsOrder}
use Rattle.site_state.specs.Steps.{IsNextLocal}
use Rattle.site_state.proofs.Undoing.{routed_back}
use Rattle.site_core.proofs.Sparing.{spared_by, memory_is_calm}
use Rattle.site_core.proofs.site.Site.route_new.Goals as goal

pub returns-in-Ok-put_part-clause-run : goal.returns-in-Ok-put_part-clause-run
returns-in-Ok-put_part-clause-run g c = λ tells first base follows.
    let s = c.args.self.now in
    let state = g.D.Device.state in
    let n = c.requires.next in
    let rank = c.args.rank in
    let after = c.go_past.new.self in
    let m = c.in-Some.ensures.set in
    let old = rows_of m.files rank in
    let file = c.number_of-file.result in
    let here : slice_get c.route.new.self.ranks rank ≡ Some n.seat = ap (λ (x : RunState). slice_get x.ranks rank) c.route.ensures.rest ∙ n.is in
    let number = c.number_of-file.ensures.number ∙ ap (λ (w : List ℕ). place_of (rows_at s.core rank) w) c.bytes.ensures.value in
    let e = event.Local rank (n.seat.number + 1) (step.Route c.args.word) (reply.Routed c.in_ok-part.part) in
    let more = appended after.history.events c.reserve.new.self.events s.history.events e e (c.go_past.ensures.events n.seat here) c.reserve.ensures.events refl in
    let opened = hand_opened s.core m (clear_new s.core rank c.args.word c.requires.clear c.requires.new).output c.in-Some.ensures.hand in
    let core = c.go_past.ensures.core n.seat here
    ∙ ap (λ (x : RunState). let y : RunState = record x { ranks = slice_set x.ranks rank (stepped n.seat) } in y) (c.in_ok-route.ensures.ok m opened)
    ∙ ap (λ (w : List ℕ). with_open s.core (with_rows m rank (routed old w)) (slice_set s.core.ranks rank (stepped n.seat))) (c.in-Ok.ensures.ok ∙ c.bytes-2.ensures.value) in
    lead_on first (with_open s.core (with_rows m rank (routed old c.args.word)) (slice_set s.core.ranks rank (stepped n.seat))) after.core s.programs after.programs (states_of state c.put_part.new.bay) (states_of state after.bay) after.history.events
    core c.go_past.ensures.fixed.programs (ap (states_of state) c.go_past.ensures.bay)
    (route_told first s.core s.programs (states_of state s.bay) (states_of state c.put_part.new.bay) s.history.events after.history.events rank file c.args.word c.in_ok-part.part c.in-Some.spot
    c.requires.stage n c.requires.clear c.requires.new c.in-Some.ensures number c.number_of-file.ensures.within c.number_of-file.ensures.rows c.in_ok-part.ensures c.in-Ok-put_part.ensures.written tells more follows)

pub returns-in-Ok-put_part-clause-told : goal.returns-in-Ok-put_part-clause-told
returns-in-Ok-put_part-clause-told g c =
    let s = c.args.self.now in
    let n = c.requires.next in
    let here : slice_get c.route.new.self.ranks c.args.rank ≡ Some n.seat = ap (λ (x : RunState). slice_get x.ranks c.args.rank) c.route.ensures.rest ∙ n.is in
    let e = event.Local c.args.rank (n.seat.number + 1) (step.Route c.args.word) (reply.Routed c.in_ok-part.part) in
    record { told = e ∷ []; few = omega arith; is = appended c.go_past.new.self.history.events c.reserve.new.self.events s.history.events e e (c.go_past.ensures.events n.seat here) c.reserve.ensures.events refl; own = (refl, tt); caused = (tt, tt) }

pub returns-in-Err-clause-run : goal.returns-in-Err-clause-run
returns-in-Err-clause-run g c = on_ok2 c.refuse_local.result (λ e k.
    let s = c.args.self.now in
    let n = c.requires.next in
    let set = c.in-Some.ensures.set in
    let opened = hand_opened s.core set (clear_new s.core c.args.rank c.args.word c.requires.clear c.requires.new).output c.in-Some.ensures.hand in
    let kept : c.unroute.new.self ≡ s.core = routed_back s.core c.route.new.self c.unroute.new.self set c.args.rank _ c.args.word opened c.in-Some.ensures.hand (c.in_ok-route.ensures.within set opened) c.requires.new (c.in-Ok.ensures.ok ∙ c.bytes-2.ensures.value) (c.in_ok-route.ensures.ok set opened) c.unroute.ensures in
    let here : slice_get c.unroute.new.self.ranks c.args.rank ≡ Some n.seat = ap (λ (x : RunState). slice_get x.ranks c.args.rank) kept ∙ n.is in
    let x = e n.seat here in
    let l = event.Local c.args.rank (n.seat.number + 1) (step.Route c.args.word) (reply.Refused x.0) in
    keeps_put g.D.Device.state s c.refuse_local.new.self c.put_part.new.bay c.args.rank (step.Route c.args.word) c.in-Err.trouble x.0 n.seat c.refuse_local.ensures.bay x.1 n.is
    (appended c.refuse_local.new.self.history.events c.reserve.new.self.events s.history.events l l x.2 c.reserve.ensures.events refl) (k n.seat here ∙ ap (λ (y : RunState). let z : RunState = record y { ranks = slice_set y.ranks c.args.rank (stepped n.seat) } in z) kept) c.refuse_local.ensures.fixed.programs c.requires.stage n c.requires.clear refl
    c.number_of-file.result c.in-Some.spot ((clear_new s.core c.args.rank c.args.word c.requires.clear c.requires.new).output) c.in-Some.ensures c.number_of-file.ensures.within c.in-Err.ensures.refused)
    c.refuse_local.ensures.events c.refuse_local.ensures.core

pub returns-in-Ok-put_part-clause-lowers : goal.returns-in-Ok-put_part-clause-lowers
returns-in-Ok-put_part-clause-lowers g c = stepped_run c.args.self.now c.go_past.new.self c.route.new.self c.args.rank (step.Route c.args.word) c.requires.next c.requires.stage (ap (λ (x : RunState). x.stage) c.route.ensures.rest ∙ c.requires.stage) (ap (λ (x : RunState). x.shape) c.route.ensures.rest) (ap (λ (x : RunState). x.ranks) c.route.ensures.rest) c.go_past.ensures.fixed.programs c.go_past.ensures.core

pub returns-in-Err-clause-lowers : goal.returns-in-Err-clause-lowers
returns-in-Err-clause-lowers g c =
    let s = c.args.self.now in
    let n = c.requires.next in
    let set = c.in-Some.ensures.set in
    let opened = hand_opened s.core set (clear_new s.core c.args.rank c.args.word c.requires.clear c.requires.new).output c.in-Some.ensures.hand in
    let kept : c.unroute.new.self ≡ s.core = routed_back s.core c.route.new.self c.unroute.new.self set c.args.rank _ c.args.word opened c.in-Some.ensures.hand (c.in_ok-route.ensures.within set opened) c.requires.new (c.in-Ok.ensures.ok ∙ c.bytes-2.ensures.value) (c.in_ok-route.ensures.ok set opened) c.unroute.ensures in
    subst (λ (x : RunState). IfOk c.refuse_local.result (λ (t : Turn). Lowers t (record s { core = x }) c.refuse_local.new.self)) kept
    (c.refuse_local.ensures.lowers (ap (λ (x : RunState). x.stage) kept ∙ c.requires.stage) (subst (λ (x : RunState). IsNextLocal s.programs x c.args.rank (step.Route c.args.word)) (sym kept) n))

pub returns-in-Ok-put_part-clause-order : goal.returns-in-Ok-put_part-clause-order
returns-in-Ok-put_part-clause-order g c = stepped_order c.args.self.now c.go_past.new.self c.route.new.self c.args.rank (step.Route c.args.word) c.requires.next (ap (λ (x : RunState). x.ranks) c.route.ensures.rest) c.go_past.ensures.fixed.programs c.go_past.ensures.core

pub returns-in-Err-clause-order : goal.returns-in-Err-clause-order
returns-in-Err-clause-order g c =
    let s = c.args.self.now in
    let n = c.requires.next in
    let set = c.in-Some.ensures.set in
    let opened = hand_opened s.core set (clear_new s.core c.args.rank c.args.word c.requires.clear c.requires.new).output c.in-Some.ensures.hand in
    let kept : c.unroute.new.self ≡ s.core = routed_back s.core c.route.new.self c.unroute.new.self set c.args.rank _ c.args.word opened c.in-Some.ensures.hand (c.in_ok-route.ensures.within set opened) c.requires.new (c.in-Ok.ensures.ok ∙ c.bytes-2.ensures.value) (c.in_ok-route.ensures.ok set opened) c.unroute.ensures in
    subst (λ (x : RunState). OnOk c.refuse_local.result (KeepsOrder (record s { core = x }) c.refuse_local.new.self)) kept
    (c.refuse_local.ensures.order (subst (λ (x : RunState). IsNextLocal s.programs x c.args.rank (step.Route c.args.word)) (sym kept) n))

pub returns-in-Ok-put_part-clause-accounted : goal.returns-in-Ok-put_part-clause-accounted
returns-in-Ok-put_part-clause-accounted g c =
    let s = c.args.self.now in
    let n = c.requires.next in
    let here : slice_get c.route.new.self.ranks c.args.rank ≡ Some n.seat = ap (λ (x : RunState). slice_get x.ranks c.args.rank) c.route.ensures.rest ∙ n.is in
    well_then c.put_part.new.bay c.go_past.ensures.bay c.in-Ok-put_part.ensures.cause (carries_same s.core c.go_past.new.self.core (ap carried (c.go_past.ensures.core n.seat here) ∙ ap carried c.route.ensures.rest))

pub returns-in-Err-clause-accounted : goal.returns-in-Err-clause-accounted
returns-in-Err-clause-accounted g c = on_ok2 c.refuse_local.result (λ e k.
    let s = c.args.self.now in
    let n = c.requires.next in
    let set = c.in-Some.ensures.set in
    let opened = hand_opened s.core set (clear_new s.core c.args.rank c.args.word c.requires.clear c.requires.new).output c.in-Some.ensures.hand in
    let kept : c.unroute.new.self ≡ s.core = routed_back s.core c.route.new.self c.unroute.new.self set c.args.rank _ c.args.word opened c.in-Some.ensures.hand (c.in_ok-route.ensures.within set opened) c.requires.new (c.in-Ok.ensures.ok ∙ c.bytes-2.ensures.value) (c.in_ok-route.ensures.ok set opened) c.unroute.ensures in
    let here : slice_get c.unroute.new.self.ranks c.args.rank ≡ Some n.seat = ap (λ (x : RunState). slice_get x.ranks c.args.rank) kept ∙ n.is in
    let x = e n.seat here in
    refusal_told g.D.Device.state s c.refuse_local.new.self c.put_part.new.bay c.refuse_local.ensures.bay (Unit {0}) _ c.in-Err.trouble x.0 c.args.rank (n.seat.number + 1) (step.Route c.args.word) x.1 c.in-Err.ensures.cause (behind _ x.2 c.reserve.ensures.events) (carries_same s.core c.refuse_local.new.self.core (ap carried (k n.seat here) ∙ ap carried kept)))
    c.refuse_local.ensures.events c.refuse_local.ensures.core

pub returns-in-Ok-put_part-clause-full : goal.returns-in-Ok-put_part-clause-full
returns-in-Ok-put_part-clause-full g c = λ p a k n w passes.
    let s = c.args.self.now in
    let rank = c.args.rank in
    let spot = c.in-Some.spot in
    let name = part_name spot.which spot.node spot.part in
    let number = c.number_of-file.ensures.number ∙ ap (λ (x : List ℕ). place_of (rows_at s.core rank) x) c.bytes.ensures.value in
    let f = file_write s.core rank (place_of (rows_at s.core rank) c.args.word) 0 0 spot p n a k (subst (λ (x : ℕ). IsSpot s.core rank x spot) number c.in-Some.ensures) (step_writes s.programs s.core rank (step.Route c.args.word) p n a k c.requires.next w).1 in
    absurd (c.in-Ok-put_part.ensures.fits (passes_this (states_of g.D.Device.state s.bay) spot.place name 0 0 p n a k f passes))

pub returns-in-Err-clause-full : goal.returns-in-Err-clause-full
returns-in-Err-clause-full g c = on_ok2 c.refuse_local.result (λ e core p a k n w passes.
    let s = c.args.self.now in
    let rank = c.args.rank in
    let spot = c.in-Some.spot in
    let next = c.requires.next in
    let set = c.in-Some.ensures.set in
    let opened = hand_opened s.core set (clear_new s.core c.args.rank c.args.word c.requires.clear c.requires.new).output c.in-Some.ensures.hand in
    let kept : c.unroute.new.self ≡ s.core = routed_back s.core c.route.new.self c.unroute.new.self set c.args.rank _ c.args.word opened c.in-Some.ensures.hand (c.in_ok-route.ensures.within set opened) c.requires.new (c.in-Ok.ensures.ok ∙ c.bytes-2.ensures.value) (c.in_ok-route.ensures.ok set opened) c.unroute.ensures in
    let here : slice_get c.unroute.new.self.ranks rank ≡ Some next.seat = ap (λ (y : RunState). slice_get y.ranks rank) kept ∙ next.is in
    let x = e next.seat here in
    let call = step.Route c.args.word in
    let name = part_name spot.which spot.node spot.part in
    let number = c.number_of-file.ensures.number ∙ ap (λ (y : List ℕ). place_of (rows_at s.core rank) y) c.bytes.ensures.value in
    let f = file_write s.core rank (place_of (rows_at s.core rank) c.args.word) 0 0 spot p n a k (subst (λ (y : ℕ). IsSpot s.core rank y spot) number c.in-Some.ensures) (step_writes s.programs s.core rank call p n a k next w).1 in
    step_full g.D.Device.state s c.refuse_local.new.self c.put_part.new.bay (Unit {0}) (IsWrite spot.place name 0 0) p (λ q m y z this. this.0 ∙ sym f.0) c.in-Err.trouble x.0 rank (next.seat.number + 1) call x.1 c.in-Err.ensures.cause (behind _ x.2 c.reserve.ensures.events))
    c.refuse_local.ensures.events c.refuse_local.ensures.core

pub returns-in-Err-clause-spared : goal.returns-in-Err-clause-spared
returns-in-Err-clause-spared g c =
    let s = c.args.self.now in
    let set = c.in-Some.ensures.set in
    let opened = hand_opened s.core set (clear_new s.core c.args.rank c.args.word c.requires.clear c.requires.new).output c.in-Some.ensures.hand in
    let kept : c.unroute.new.self ≡ s.core = routed_back s.core c.route.new.self c.unroute.new.self set c.args.rank _ c.args.word opened c.in-Some.ensures.hand (c.in_ok-route.ensures.within set opened) c.requires.new (c.in-Ok.ensures.ok ∙ c.bytes-2.ensures.value) (c.in_ok-route.ensures.ok set opened) c.unroute.ensures in
    spared_by g.D.Device.state s _ c.refuse_local.new.self c.refuse_local.result c.in-Err.trouble c.refuse_local.ensures.refused (memory_is_calm c.refuse_local.result c.in-Err.trouble c.refuse_local.ensures.memory) kept refl c.reserve.ensures.events refl c.in-Err.ensures.spared

pub returns-in-Err-clause-fixed : goal.returns-in-Err-clause-fixed
returns-in-Err-clause-fixed g c =
    let s = c.args.self.now in
    let set = c.in-Some.ensures.set in
    let opened = hand_opened s.core set (clear_new s.core c.args.rank c.args.word c.requires.clear c.requires.new).output c.in-Some.ensures.hand in
    let kept : c.unroute.new.self ≡ s.core = routed_back s.core c.route.new.self c.unroute.new.self set c.args.rank _ c.args.word opened c.in-Some.ensures.hand (c.in_ok-route.ensures.within set opened) c.requires.new (c.in-Ok.ensures.ok ∙ c.bytes-2.ensures.value) (c.in_ok-route.ensures.ok set opened) c.unroute.ensures in
    let r = c.refuse_local.ensures.fixed in
    record {
      shape = r.shape ∙ ap (λ (x : RunState). x.shape) kept;
      config = r.config ∙ ap (λ (x : RunState). x.config) kept;
      places = r.places ∙ ap (λ (x : RunState). x.places) kept;
      programs = r.programs;
      ranks = r.ranks ∙ ap (λ (x : RunState). length x.ranks) kept;
      room = λ room. r.room (omega (arith, c.in_ok-reserve.ensures.room));
      tells = λ p. r.tells p ∙ c.put_part.ensures.tells p;
    }
