use Rattle.gated_record.specs.declared.pair.PairValue.{PairValue}
use Rattle.gated_record.proofs.PairNext.{stepped, unstepped}
use Rattle.gated_record.proofs.pair_next.pair_next_step.Goals as goal

pub returns-in-Ok : goal.returns-in-Ok
returns-in-Ok g c = stepped c.args.stem.now c.args.payload.now c.in-Ok.want (g.D.Device.state c.args.dev.now) (g.D.Device.state c.following.new.dev) (g.D.Device.state c.pair_step.new.dev) c.pair_step.result c.args.stage.now c.pair_step.new.stage
    (g.met.D.Device.sound c.args.dev.now) c.in-Ok.ensures.same c.in-Ok.ensures.cause c.in-Ok.ensures.payload c.in-Ok.ensures.fits c.in-Ok.ensures.following c.pair_step.ensures

pub returns-in-Err : goal.returns-in-Err
returns-in-Err g c = unstepped PairValue c.args.stem.now c.args.payload.now (g.D.Device.state c.args.dev.now) (g.D.Device.state c.following.new.dev) c.args.stage.now c.in-Err.fault (g.met.D.Device.sound c.args.dev.now) c.requires.stage c.in-Err.ensures.same c.in-Err.ensures.answer c.in-Err.ensures.cause
