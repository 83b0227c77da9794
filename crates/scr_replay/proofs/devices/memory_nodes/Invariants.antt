use Rattle.std.proofs.Common.{◌≤◌, ◌-◌, All, vec_len}
use Rattle.node_device.specs.MemState.{mem_state}
use Rattle.scr_replay.specs.Devices.{HoldsNothing}
use Rattle.scr_replay.proofs.devices.memory_nodes.Given as goal

-- the nodes so far hold nothing
abbrev pub invariant-loop-alloc : goal.invariant-loop-alloc
invariant-loop-alloc l = record { few : vec_len l.nodes ≤ 32; each : All (λ d. HoldsNothing (mem_state d)) l.nodes.items }

abbrev pub decreases-loop-alloc : goal.decreases-loop-alloc
decreases-loop-alloc l = 32 - vec_len l.nodes
