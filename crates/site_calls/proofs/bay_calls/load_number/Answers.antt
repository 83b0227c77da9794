use Rattle.site_calls.specs.Numbers.{LoadsNumber}
use Rattle.std.proofs.Common.{arith}
use Rattle.node_device.proofs.Racks.{only_at}
use Rattle.site_calls.proofs.bay_calls.load_number.Goals as goal

pub returns : goal.returns
returns g c =
    let done : LoadsNumber c.pair_load.result (g.D.Device.state c.device.result.now) (g.D.Device.state c.pair_load.new.dev) = record {
      answer = c.pair_load.ensures.answer;
      value = c.pair_load.ensures.value;
      same = c.pair_load.ensures.same;
      cause = c.pair_load.ensures.cause;
    } in
    only_at g.D.Device.state c.args.bay.now c.device.ensures.full 32 (omega arith) (LoadsNumber c.pair_load.result) c.device.result.now c.pair_load.new.dev c.device.ensures.value done
