use Rattle.node_device.specs.Calls.{Writes}
use Rattle.node_device.proofs.Racks.{only_at}
use Rattle.node_device.proofs.bay.Bay.write_at.Goals as goal

pub returns : goal.returns
returns g c =
    let done : Writes c.args.name.now c.args.at c.args.bytes.now c.write.result (g.D.Device.state c.device.result.now) (g.D.Device.state c.write.new.self) = record {
      answer = c.write.ensures.answer;
      len = c.write.ensures.len;
      now = c.write.ensures.now;
      torn = c.write.ensures.torn;
      refused = c.write.ensures.refused;
      spared = c.write.ensures.spared;
      only = c.write.ensures.only;
      cause = c.write.ensures.cause;
    } in
    only_at g.D.Device.state c.args.self.now c.device.ensures.full c.args.place c.requires.place (Writes c.args.name.now c.args.at c.args.bytes.now c.write.result) c.device.result.now c.write.new.self c.device.ensures.value done
