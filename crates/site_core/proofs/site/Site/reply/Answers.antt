use Rattle.std.proofs.Common.{sym, ◌∷◌, [], arith}
use Rattle.ckpt_model.specs.declared.event.Event.TheVariants as event
use Rattle.node_device.specs.Rack.{states_of}
use Rattle.site_core.proofs.Told.{appended}
use Rattle.site_core.proofs.Serving.{replied}
use Rattle.site_state.proofs.AheadCores.{replied_lower}
use Rattle.site_state.proofs.InOrder.{freed_order}
use Rattle.site_core.proofs.site.Site.reply.Goals as goal

pub returns-clause-run : goal.returns-clause-run
returns-clause-run g c = λ tells first base f.
    let s = c.args.self.now in
    let answer = c.in-Some-take_reply.answer in
    let seat = c.in-Some.seat.now in
    let told = appended c.push.new.self.events c.reserve.new.self.events s.history.events (event.Reply c.args.rank seat.number answer) (event.Reply c.args.rank seat.number answer) c.in-Ok.ensures.events c.reserve.ensures.events Rattle.std.proofs.Common.refl in
    replied first s.core s.programs (states_of g.D.Device.state s.bay) s.history.events c.push.new.self.events c.args.rank seat answer c.take_reply.new.self c.requires.stage (sym c.in-Some.ensures) c.in-Some-take_reply.ensures.some told f

pub returns-clause-told : goal.returns-clause-told
returns-clause-told g c =
    let s = c.args.self.now in
    let e = event.Reply c.args.rank c.in-Some.seat.now.number c.in-Some-take_reply.answer in
    let told = appended c.push.new.self.events c.reserve.new.self.events s.history.events e e c.in-Ok.ensures.events c.reserve.ensures.events Rattle.std.proofs.Common.refl in
    record { told = e ∷ []; few = omega arith; is = told; own = (Rattle.std.proofs.Common.refl, tt); caused = (tt, tt) }

pub returns-clause-lowers : goal.returns-clause-lowers
returns-clause-lowers g c =
    let s = c.args.self.now in
    replied_lower s.core s.programs c.args.rank c.in-Some-take_reply.answer c.take_reply.new.self c.requires.stage c.in-Some-take_reply.ensures.some

pub returns-clause-order : goal.returns-clause-order
returns-clause-order g c = freed_order c.args.self.now.programs c.args.self.now.core.ranks c.take_reply.new.self c.args.rank c.in-Some-take_reply.answer c.in-Some-take_reply.ensures.some
