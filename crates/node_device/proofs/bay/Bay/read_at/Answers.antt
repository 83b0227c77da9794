use Rattle.std.proofs.Common.{length}
use Rattle.node_device.specs.Calls.{Reads}
use Rattle.node_device.proofs.Racks.{only_at}
use Rattle.node_device.proofs.bay.Bay.read_at.Goals as goal

pub returns : goal.returns
returns g c =
    let done : Reads c.args.name.now c.args.at (length c.args.into.now) c.read.new.into c.read.result (g.D.Device.state c.device.result.now) (g.D.Device.state c.read.new.self) = record {
      answer = c.read.ensures.answer;
      bytes = c.read.ensures.bytes;
      same = c.read.ensures.same;
      cause = c.read.ensures.cause;
    } in
    only_at g.D.Device.state c.args.self.now c.device.ensures.full c.args.place c.requires.place (Reads c.args.name.now c.args.at (length c.args.into.now) c.read.new.into c.read.result) c.device.result.now c.read.new.self c.device.ensures.value done
