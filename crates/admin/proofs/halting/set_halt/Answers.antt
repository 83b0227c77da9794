use Rattle.std.proofs.Common.{false, sym, subst}
use Rattle.std.specs.Option.{option_copied}
use Rattle.halt_file.specs.Conditions.{conditions}
use Rattle.halt_file.specs.declared.halt.Halt.{Halt}
use Rattle.admin.proofs.Ways.{IsOnWay, begins, stepped, refused, unfound, finished}
use Rattle.admin.proofs.halting.set_halt.Goals as goal

pub returns-in-Err : goal.returns-in-Err
returns-in-Err g c =
    unfound (option_copied c.args.word) (g.D.Device.state c.args.dev.now) (g.D.Device.state c.wanted.new.dev) c.wanted.ensures.same Halt c.in-Err.fault c.refusal.result c.refusal.ensures c.in-Err.ensures.answer c.in-Err.ensures.cause

pub loop-over-init : goal.loop-over-init
loop-over-init g c =
    let stage_is = c.new-stage.ensures in
    subst (λ s. IsOnWay (option_copied c.args.word) (conditions c.in-Ok.want) s false (g.D.Device.state c.args.dev.now) (g.D.Device.state c.wanted.new.dev)) (sym stage_is)
    (begins (option_copied c.args.word) (conditions c.in-Ok.want) (g.D.Device.state c.args.dev.now) (g.D.Device.state c.wanted.new.dev) c.wanted.ensures.same c.in-Ok.ensures.cause c.in-Ok.ensures.found)

pub loop-over-preserved : goal.loop-over-preserved
loop-over-preserved g c =
    let way = subst (λ b. IsOnWay (option_copied c.args.word) (conditions c.in-Ok.want) c.loop-over.stage b (g.D.Device.state c.args.dev.now) (g.D.Device.state c.loop-over.dev)) c.loop-over-test.true c.loop-over.invariant in
    stepped (option_copied c.args.word) (conditions c.in-Ok.want) c.loop-over.stage c.store_step.new.stage (g.D.Device.state c.args.dev.now) (g.D.Device.state c.loop-over.dev) (g.D.Device.state c.store_step.new.dev) way c.in-Ok-store_step.done (g.met.D.Device.sound c.args.dev.now) (g.met.D.Device.sound c.loop-over.dev) c.in-Ok-store_step.ensures

pub returns-in-Err-store_step : goal.returns-in-Err-store_step
returns-in-Err-store_step g c =
    let way = subst (λ b. IsOnWay (option_copied c.args.word) (conditions c.in-Ok.want) c.loop-over.stage b (g.D.Device.state c.args.dev.now) (g.D.Device.state c.loop-over.dev)) c.loop-over-test.true c.loop-over.invariant in
    refused (option_copied c.args.word) (conditions c.in-Ok.want) c.loop-over.stage c.store_step.new.stage (g.D.Device.state c.args.dev.now) (g.D.Device.state c.loop-over.dev) (g.D.Device.state c.store_step.new.dev) way (g.met.D.Device.sound c.args.dev.now) (g.met.D.Device.sound c.loop-over.dev) c.in-Err-store_step.fault c.refusal-in-Err-store_step.result c.refusal-in-Err-store_step.ensures c.in-Err-store_step.ensures

pub returns : goal.returns
returns g c =
    finished (option_copied c.args.word) (conditions c.in-Ok.want) c.loop-over.stage (g.D.Device.state c.args.dev.now) (g.D.Device.state c.loop-over.dev)
    (subst (λ b. IsOnWay (option_copied c.args.word) (conditions c.in-Ok.want) c.loop-over.stage b (g.D.Device.state c.args.dev.now) (g.D.Device.state c.loop-over.dev)) c.loop-over-test.false c.loop-over.invariant)
