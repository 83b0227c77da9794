use Rattle.std.proofs.Common.{sym}
use Rattle.scr_base.specs.declared.change.Change.{Change}
use Rattle.std.specs.declared.collections.VecDeque.{VecDeque}
use Rattle.std.specs.declared.alloc.Global.{Global}
use Rattle.gated_record.proofs.PairBegins.{later_may, later_ok, later_err, unbegun, after_calls}
use Rattle.gated_record.proofs.pair_steps.pair_step.Goals as goal

pub step-requires : goal.step-requires
step-requires g c = later_may c.args.stem.now c.args.want.now c.requires.stem c.requires.short c.requires.version c.copy-copy.ensures.fits (g.D.Device.state c.args.dev.now) (g.met.D.Device.sound c.args.dev.now) c.args.stage.now (sym c.if-not-is_new.ensures) c.requires.stage

pub returns-in-Ok : goal.returns-in-Ok
returns-in-Ok g c = later_ok c.args.stem.now c.args.want.now c.requires.stem c.requires.short c.requires.version c.copy-copy.ensures.fits (g.D.Device.state c.args.dev.now) (g.met.D.Device.sound c.args.dev.now) c.args.stage.now (sym c.if-not-is_new.ensures) c.requires.stage
    (g.D.Device.state c.step.new.dev) c.step.new.stage c.is_over.result c.in-Ok.ensures.made c.in-Ok.ensures.passed c.is_over.ensures

pub returns-in-Err : goal.returns-in-Err
returns-in-Err g c = later_err c.args.stem.now c.args.want.now c.requires.stem c.requires.short c.requires.version c.copy-copy.ensures.fits (g.D.Device.state c.args.dev.now) (g.met.D.Device.sound c.args.dev.now) c.args.stage.now (sym c.if-not-is_new.ensures) c.requires.stage
    (g.D.Device.state c.step.new.dev) c.step.new.stage c.in-Err.fault c.in-Err.ensures.made c.in-Err.ensures.refused

pub returns-in-Ok-changes_to : goal.returns-in-Ok-changes_to
returns-in-Ok-changes_to g c = after_calls c.args.stem.now c.args.want.now (g.D.Device.state c.args.dev.now) (g.D.Device.state c.changes_to.new.dev) (g.D.Device.state c.begin.new.dev) c.begin.result c.args.stage.now c.begin.new.stage c.in-Ok-changes_to.ensures.same c.in-Ok-changes_to.ensures.cause c.begin.ensures

pub returns-in-Err-changes_to : goal.returns-in-Err-changes_to
returns-in-Err-changes_to g c = unbegun (VecDeque Change Global) c.args.stem.now c.args.want.now (g.D.Device.state c.args.dev.now) (g.D.Device.state c.changes_to.new.dev) c.args.stage.now c.in-Err-changes_to.fault (sym c.if-not-is_new.ensures) c.in-Err-changes_to.ensures.same c.in-Err-changes_to.ensures.answer c.in-Err-changes_to.ensures.cause
