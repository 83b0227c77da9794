use Rattle.member_store.specs.Calls.{SetsGate}
use Rattle.std.specs.Prelude.{true}
use Rattle.node_device.proofs.Racks.{only_at}
use Rattle.site_calls.proofs.bay_calls.open_gate_at.Goals as goal

pub returns : goal.returns
returns g c = only_at g.D.Device.state c.args.bay.now c.device.ensures.full c.args.place c.requires (SetsGate c.args.which c.args.node c.args.gate true c.set_gate.result) c.device.result.now c.set_gate.new.dev c.device.ensures.value c.set_gate.ensures
