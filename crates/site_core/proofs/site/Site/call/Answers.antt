use Rattle.std.proofs.Common.{◌≡◌, ◌∙◌, ℕ, sym, ap, refl, subst, ◌+◌, ◌<◌, ◌^◌}
use Rattle.scr_base.specs.declared.content.Step.{Step}
use Rattle.ckpt_model.specs.declared.event.Event.TheVariants as event
use Rattle.node_device.specs.Rack.{states_of}
use Rattle.round_core.specs.declared.seat.Seat.{Seat}
use Rattle.round_core.specs.Seats.{next_number}
use Rattle.site_core.proofs.Told.{appended}
use Rattle.site_core.proofs.Serving.{called_on}
use Rattle.site_state.proofs.Serving.{some_same}
use Rattle.site_state.proofs.AheadCores.{calls_lower}
use Rattle.site_state.proofs.InOrder.{called_order}
use Rattle.site_core.proofs.site.Site.call.Goals as goal

pub number_after-number-requires : goal.number_after-number-requires
number_after-number-requires g c =
    let next = c.requires.next in
    let same : c.in-Some.seat.now ≡ next.seat = some_same c.in-Some.seat.now next.seat (c.in-Some.ensures ∙ next.is) in
    subst (λ (x : Seat). x.number + 1 < 2 ^ 32) (sym same) next.small

pub returns-clause-run : goal.returns-clause-run
returns-clause-run g c = λ tells first base f.
    let s = c.args.self.now in
    let next = c.requires.next in
    let same : c.in-Some.seat.now ≡ next.seat = some_same c.in-Some.seat.now next.seat (c.in-Some.ensures ∙ next.is) in
    let number : c.number_after-number.result ≡ next_number next.seat = c.number_after-number.ensures ∙ ap next_number same in
    let told = appended c.push.new.history.events s.history.events s.history.events (event.Call c.args.rank c.number_after-number.result c.in_ok-told.told) (event.Call c.args.rank (next_number next.seat) c.args.step) c.in_ok-push.ensures.events refl
    (ap (λ (n : ℕ). event.Call c.args.rank n c.in_ok-told.told) number ∙ ap (λ (x : Step). event.Call c.args.rank (next_number next.seat) x) c.in_ok-told.ensures) in
    called_on first s.core s.programs (states_of g.D.Device.state s.bay) s.history.events c.push.new.history.events c.args.rank c.args.step c.arrive.new.self c.requires.stage next c.arrive.ensures told f

pub returns-clause-lowers : goal.returns-clause-lowers
returns-clause-lowers g c =
    let s = c.args.self.now in
    calls_lower s.core s.programs c.args.rank c.args.step c.arrive.new.self c.requires.stage c.requires.next c.arrive.ensures

pub returns-clause-order : goal.returns-clause-order
returns-clause-order g c = called_order c.args.self.now.programs c.args.self.now.core c.arrive.new.self c.args.rank c.args.step c.requires.next c.arrive.ensures
