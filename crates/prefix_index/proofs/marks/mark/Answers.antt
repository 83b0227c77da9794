use Rattle.std.proofs.Common.{Option}
use Rattle.scr_base.specs.declared.shape.DataId.{DataId}
use Rattle.prefix_index.proofs.Marked.{mark_refused}
use Rattle.prefix_index.proofs.marks.mark.Goals as goal

pub returns-in-Ok : goal.returns-in-Ok
returns-in-Ok g c = record { answer = tt; mark = c.in-Ok.ensures.mark; same = c.in-Ok.ensures.same; cause = c.in-Ok.ensures.cause }

pub returns-in-Err : goal.returns-in-Err
returns-in-Err g c =
    mark_refused (Option DataId) (g.D.Device.state c.args.dev.now) (g.D.Device.state c.told_mark.new.dev) c.in-Err.fault c.of.result c.in-Err.ensures.answer c.in-Err.ensures.same c.in-Err.ensures.cause c.of.ensures
