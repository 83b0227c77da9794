use Rattle.std.proofs.Common.{arith}
use Rattle.node_device.specs.Calls.{Wipes}
use Rattle.node_device.proofs.Racks.{only_at}
use Rattle.node_device.proofs.bay.Bay.lose.Goals as goal

pub returns : goal.returns
returns g c =
    let done : Wipes (g.D.Device.state c.device.result.now) (g.D.Device.state c.wipe.new.self) = record {
      tells = c.wipe.ensures.tells;
      names = c.wipe.ensures.names;
      empty = c.wipe.ensures.empty;
    } in
    only_at g.D.Device.state c.args.self.now c.device.ensures.full c.args.node (omega (arith, c.requires)) (Wipes) c.device.result.now c.wipe.new.self c.device.ensures.value done
