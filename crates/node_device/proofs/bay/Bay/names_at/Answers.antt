use Rattle.node_device.specs.Calls.{Lists}
use Rattle.node_device.proofs.Racks.{only_at}
use Rattle.node_device.proofs.bay.Bay.names_at.Goals as goal

pub returns : goal.returns
returns g c =
    let done : Lists c.names.result (g.D.Device.state c.device.result.now) (g.D.Device.state c.names.new.self) = record {
      answer = c.names.ensures.answer;
      names = c.names.ensures.names;
      same = c.names.ensures.same;
      cause = c.names.ensures.cause;
    } in
    only_at g.D.Device.state c.args.self.now c.device.ensures.full c.args.place c.requires (Lists c.names.result) c.device.result.now c.names.new.self c.device.ensures.value done
