use Rattle.std.proofs.Common.{sym, ap, ◌∙◌}
use Rattle.node_device.specs.DeviceState.{DeviceState}
use Rattle.node_device.proofs.Racks.{states_of-device}
use Rattle.node_device.proofs.bay.Bay.capacity_at.Goals as goal

pub returns : goal.returns
returns g c =
    let state = g.D.Device.state in
    c.capacity.ensures ∙ ap (λ (s : DeviceState). s.capacity) (ap state c.at.ensures.value ∙ sym (states_of-device state c.args.self.now c.at.ensures.full c.args.place c.requires))
