use Rattle.node_device.specs.Calls.{Removes}
use Rattle.node_device.proofs.Racks.{only_at}
use Rattle.node_device.proofs.bay.Bay.remove_at.Goals as goal

pub returns : goal.returns
returns g c =
    let done : Removes c.args.name.now c.remove.result (g.D.Device.state c.device.result.now) (g.D.Device.state c.remove.new.self) = record {
      answer = c.remove.ensures.answer;
      removed = c.remove.ensures.removed;
      refused = c.remove.ensures.refused;
      only = c.remove.ensures.only;
      cause = c.remove.ensures.cause;
    } in
    only_at g.D.Device.state c.args.self.now c.device.ensures.full c.args.place c.requires.place (Removes c.args.name.now c.remove.result) c.device.result.now c.remove.new.self c.device.ensures.value done
