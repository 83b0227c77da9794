use Rattle.std.proofs.Common.{◌∙◌}
use Rattle.halt_file.specs.Conditions.{conditions}
use Rattle.halt_file.proofs.Stored.{stores, unstored}
use Rattle.halt_file.proofs.store.store_step.Goals as goal

pub returns-in-Ok : goal.returns-in-Ok
returns-in-Ok g c = stores (conditions c.args.want.now) c.list.result.now c.pair_next_step.result c.args.stage.now c.pair_next_step.new.stage (g.D.Device.state c.args.dev.now) (g.D.Device.state c.pair_next_step.new.dev) c.in-Ok.ensures.fits (c.list.ensures ∙ c.in-Ok.ensures.spelled) (g.met.D.Device.sound c.pair_next_step.new.dev) c.pair_next_step.ensures

pub returns-in-Err : goal.returns-in-Err
returns-in-Err g c = unstored (conditions c.args.want.now) (g.D.Device.state c.args.dev.now) c.args.stage.now c.from.result c.in-Err.ensures.fits (g.met.D.Device.sound c.args.dev.now) c.from.ensures c.requires
