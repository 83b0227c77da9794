use Rattle.std.proofs.Common.{refl, ◌∷◌, [], arith, ap, ◌∙◌, length, List, sym, subst}
use Rattle.ckpt_model.specs.declared.event.Event.TheVariants as event
use Rattle.node_device.specs.Rack.{states_of}
use Rattle.site_core.specs.Stored.{cells_of, contents_of}
use Rattle.site_core.specs.Follows.{carried}
use Rattle.site_core.proofs.Told.{appended}
use Rattle.site_core.proofs.Serving.{decided_on}
use Rattle.site_core.proofs.Turns.{calm_carried}
use Rattle.site_state.proofs.AheadCores.{by_round}
use Rattle.std.proofs.lemmas.List.{length-map}
use Rattle.round_core.specs.Seats.{owed}
use Rattle.site_state.specs.Shown.{decided}
use Rattle.site_state.specs.Order.{IsInOrder}
use Rattle.round_core.specs.declared.seat.Seat.{Seat}
use Rattle.site_state.proofs.InOrder.{owed_order}
use Rattle.site_core.proofs.site.Site.tell_round.Goals as goal

pub returns-clause-run : goal.returns-clause-run
returns-clause-run g c = λ tells first base f.
    let s = c.args.self.now in
    let states = states_of g.D.Device.state s.bay in
    let told = appended c.push.new.self.events c.reserve.new.self.events s.history.events (event.Decided c.args.kind c.args.answer) (event.Decided c.args.kind c.args.answer) c.in-Ok.ensures.events c.reserve.ensures.events refl in
    decided_on first s.core s.programs states s.history.events c.push.new.self.events c.args.kind c.args.answer c.args.phase c.args.offer c.args.needs c.decide.new.self c.requires.stage (c.requires.steps first f).0 ((c.requires.steps first f).1 (contents_of (cells_of states) s.core)) (c.decide.ensures.decided c.in_ok-decide.was) told f

pub returns-clause-told : goal.returns-clause-told
returns-clause-told g c =
    let s = c.args.self.now in
    let e = event.Decided c.args.kind c.args.answer in
    let told = appended c.push.new.self.events c.reserve.new.self.events s.history.events e e c.in-Ok.ensures.events c.reserve.ensures.events refl in
    record { told = e ∷ []; few = omega arith; is = told; own = (tt, tt); caused = (calm_carried (carried s.core) c.args.answer c.requires.calm, tt) }

pub returns-clause-lowers : goal.returns-clause-lowers
returns-clause-lowers g c =
    let s = c.args.self.now in
    let is = c.decide.ensures.decided c.in_ok-decide.was in
    by_round s.core (decided s.core c.args.phase c.args.offer c.args.needs c.decide.new.self) s.programs c.requires.stage c.requires.stage refl (ap length is ∙ length-map s.core.ranks (owed c.args.answer)) c.args.answer is c.requires.calls

pub returns-clause-order : goal.returns-clause-order
returns-clause-order g c = λ order.
    let s = c.args.self.now in
    subst (λ (rs : List Seat). IsInOrder s.programs rs) (sym (c.decide.ensures.decided c.in_ok-decide.was)) (owed_order s.programs s.core.ranks c.args.answer order)
