use Rattle.site_calls.specs.Numbers.{LoadsHalt}
use Rattle.std.proofs.Common.{arith}
use Rattle.node_device.proofs.Racks.{only_at}
use Rattle.site_calls.proofs.bay_calls.load_halt.Goals as goal

pub returns : goal.returns
returns g c =
    let done : LoadsHalt c.load.result (g.D.Device.state c.device.result.now) (g.D.Device.state c.load.new.dev) = record {
      answer = c.load.ensures.answer;
      value = c.load.ensures.told;
      same = c.load.ensures.same;
      cause = c.load.ensures.cause;
    } in
    only_at g.D.Device.state c.args.bay.now c.device.ensures.full 32 (omega arith) (LoadsHalt c.load.result) c.device.result.now c.load.new.dev c.device.ensures.value done
