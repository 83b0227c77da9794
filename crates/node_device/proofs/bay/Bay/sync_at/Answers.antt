use Rattle.node_device.specs.Calls.{Syncs}
use Rattle.node_device.proofs.Racks.{only_at}
use Rattle.node_device.proofs.bay.Bay.sync_at.Goals as goal

pub returns : goal.returns
returns g c =
    let done : Syncs c.sync.result (g.D.Device.state c.device.result.now) (g.D.Device.state c.sync.new.self) = record {
      answer = c.sync.ensures.answer;
      alike = c.sync.ensures.alike;
      at_rest = c.sync.ensures.at_rest;
      partly = c.sync.ensures.partly;
      cause = c.sync.ensures.cause;
    } in
    only_at g.D.Device.state c.args.self.now c.device.ensures.full c.args.place c.requires (Syncs c.sync.result) c.device.result.now c.sync.new.self c.device.ensures.value done
