use Rattle.std.proofs.Common.{◌⊎◌, inl, inr, ◌≡◌, ◌∙◌, ◌<◌, ◌≤◌, ℕ, List, length, arith, sym, ap, subst}
use Rattle.std.specs.Prelude.{slice_index_or}
use Rattle.node_device.specs.DeviceState.{DeviceState}
use Rattle.node_device.specs.Rack.{states_of}
use Rattle.node_device.specs.MemState.{mem_state}
use Rattle.node_device.specs.declared.mem.MemDevice.{MemDevice}
use Rattle.node_device.proofs.Racks.{states_of-node, states_of-prefix}
use Rattle.scr_replay.specs.Devices.{HoldsNothing}
use Rattle.scr_replay.proofs.devices.memory_bay.Goals as goal

last_or_not : (place : ℕ) → place ≤ 32 → (place ≡ 32) ⊎ (place < 32)
last_or_not place le = grind (arith, le)

pub returns : goal.returns
returns c = λ place le.
    let nodes = c.in_ok-nodes.nodes in
    let rack = c.new.result in
    let count : length rack.nodes ≡ 32 = ap (λ (l : List MemDevice). length l) c.new.ensures.nodes ∙ sym nodes.ok.0 ∙ c.in_ok-nodes.ensures.count in
    elim (last_or_not place le) [
      | inl last ↦ subst (λ (p : ℕ). HoldsNothing (states_of mem_state rack p)) (sym last) (subst (λ (d : DeviceState). HoldsNothing d) (sym (states_of-prefix mem_state rack count)) (subst (λ (d : MemDevice). HoldsNothing (mem_state d)) (sym c.new.ensures.prefix) c.in_ok-prefix.ensures))
      | inr node ↦ subst (λ (d : DeviceState). HoldsNothing d) (sym (states_of-node mem_state rack count place rack.prefix node))
          (subst (λ (l : List MemDevice). HoldsNothing (mem_state (slice_index_or l place rack.prefix))) (sym c.new.ensures.nodes) (c.in_ok-nodes.ensures.empty place rack.prefix (omega (arith, node, nodes.ok.0, c.in_ok-nodes.ensures.count))))
    ]
