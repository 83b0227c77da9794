use Rattle.std.proofs.Common.{Bool, Option, Err, sym, subst}
use Rattle.scr_base.specs.declared.shape.DataId.{DataId}
use Rattle.prefix_index.specs.Storing.{FindsFlushed, MarksEntry}
use Rattle.prefix_index.specs.declared.error.IndexError.{IndexError}
use Rattle.prefix_index.proofs.SoFar.{unchanged}
use Rattle.prefix_index.proofs.StoresMark.{marks, no_entry, unread}
use Rattle.prefix_index.proofs.storing.current_step.Goals as goal

pub returns-in-Ok-Some-clause-step : goal.returns-in-Ok-Some-clause-step
returns-in-Ok-Some-clause-step g c =
    let old = g.D.Device.state c.args.dev.now in
    let mid = g.D.Device.state c.flushed_of.new.dev in
    marks c.args.id c.in-Ok-Some.which c.store.result c.args.stage.now c.store.new.stage old mid (g.D.Device.state c.store.new.dev) (unchanged old mid c.in-Ok-Some.ensures.same c.in-Ok-Some.ensures.cause)
    (λ tells. subst (λ (o : Option DataId). FindsFlushed c.args.id old o) c.in-Ok-Some.field-0-is (c.in-Ok-Some.ensures.found tells)) c.store.ensures

pub returns-in-Ok-None-clause-step : goal.returns-in-Ok-None-clause-step
returns-in-Ok-None-clause-step g c =
    let old = g.D.Device.state c.args.dev.now in
    no_entry c.args.id c.args.stage.now old (g.D.Device.state c.flushed_of.new.dev) (λ tells. subst (λ (o : Option DataId). FindsFlushed c.args.id old o) c.in-Ok-None.field-0-is (c.in-Ok-None.ensures.found tells)) c.in-Ok-None.ensures.cause c.in-Ok-None.ensures.same

pub returns-in-Err-clause-step : goal.returns-in-Err-clause-step
returns-in-Err-clause-step g c =
    subst (λ (r : IndexError). MarksEntry c.args.id (Err r) c.args.stage.now c.args.stage.now (g.D.Device.state c.args.dev.now) (g.D.Device.state c.flushed_of.new.dev)) (sym c.of.ensures)
    (unread c.args.id c.args.stage.now (g.D.Device.state c.args.dev.now) (g.D.Device.state c.flushed_of.new.dev) (Option DataId) c.in-Err.fault c.in-Err.ensures.answer c.in-Err.ensures.cause c.in-Err.ensures.same)

pub returns-in-Ok-Some-clause-stage : goal.returns-in-Ok-Some-clause-stage
returns-in-Ok-Some-clause-stage g c = c.store.ensures.steps.stage
