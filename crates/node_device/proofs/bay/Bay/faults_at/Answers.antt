use Rattle.std.proofs.Common.{sym, ap, ◌∙◌}
use Rattle.node_device.specs.DeviceState.{DeviceState}
use Rattle.node_device.proofs.Racks.{states_of-device}
use Rattle.node_device.proofs.bay.Bay.faults_at.Goals as goal

pub returns : goal.returns
returns g c =
    let state = g.D.Device.state in
    c.faults.ensures ∙ ap (λ (s : DeviceState). s.faults) (ap state c.at.ensures.value ∙ sym (states_of-device state c.args.self.now c.at.ensures.full c.args.place c.requires))
