use Rattle.std.proofs.Common.{◌≡◌}
use Rattle.node_device.proofs.Racks.{AreDone, IsStopBy}
use Rattle.node_device.proofs.bay.Bay.stop.Given as goal

abbrev pub invariant-loop-i : goal.invariant-loop-i
invariant-loop-i g l = record {
  nodes : AreDone g.D.Device.state (IsStopBy (g.D.Device.leaves l.pick)) l.i l.fn.self.nodes l.self-inside.nodes.items;
  prefix : l.self-inside.prefix ≡ l.fn.self.prefix;
}
