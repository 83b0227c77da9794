use Rattle.node_device.specs.Calls.{Sizes}
use Rattle.node_device.proofs.Racks.{only_at}
use Rattle.node_device.proofs.bay.Bay.size_at.Goals as goal

pub returns : goal.returns
returns g c =
    let done : Sizes c.args.name.now c.size.result (g.D.Device.state c.device.result.now) (g.D.Device.state c.size.new.self) = record {
      answer = c.size.ensures.answer;
      same = c.size.ensures.same;
      cause = c.size.ensures.cause;
    } in
    only_at g.D.Device.state c.args.self.now c.device.ensures.full c.args.place c.requires.place (Sizes c.args.name.now c.size.result) c.device.result.now c.size.new.self c.device.ensures.value done
