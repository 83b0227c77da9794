use Rattle.std.proofs.Common.{◌∙◌}
use Rattle.prefix_index.proofs.StoresMark.{spelled_step, unspelled}
use Rattle.prefix_index.proofs.storing.put_mark.Goals as goal

pub returns-in-Ok : goal.returns-in-Ok
returns-in-Ok g c =
    spelled_step c.args.which c.list.result.now c.pair_next_step.result c.args.stage.now c.pair_next_step.new.stage (g.D.Device.state c.args.dev.now) (g.D.Device.state c.pair_next_step.new.dev) (c.list.ensures ∙ c.in-Ok.ensures.payload) c.pair_next_step.ensures

pub returns-in-Err : goal.returns-in-Err
returns-in-Err g c = unspelled c.args.which (g.D.Device.state c.args.dev.now) c.args.stage.now c.from.result (g.met.D.Device.sound c.args.dev.now) c.from.ensures c.requires
