use Rattle.std.proofs.Common.{◌≡◌, ◌≤◌, ℕ, List, [], ◌∷◌, ◌++◌, All, vec_len, sym, subst, arith}
use Rattle.std.proofs.lemmas.List.Elements.{All-append}
use Rattle.node_device.specs.MemState.{mem_state}
use Rattle.node_device.specs.declared.mem.MemDevice.{MemDevice}
use Rattle.scr_replay.specs.Devices.{HoldsNothing}
use Rattle.scr_replay.proofs.devices.memory_nodes.Goals as goal

one : (d : MemDevice) → HoldsNothing (mem_state d) → All (λ (x : MemDevice). HoldsNothing (mem_state x)) (d ∷ [])
one d is = λ k x lt. subst (λ (i : ℕ). HoldsNothing (mem_state (Rattle.std.specs.Prelude.get_or (d ∷ []) i x))) (sym (let zero_is : k ≡ 0 = omega (arith, lt) in zero_is)) is

pub loop-alloc-preserved : goal.loop-alloc-preserved
loop-alloc-preserved c = record {
  few = omega (arith, c.in_ok-push.ensures.len, c.loop-alloc-test.true, c.len.ensures);
  each = subst (λ (l : List MemDevice). All (λ (x : MemDevice). HoldsNothing (mem_state x)) l) (sym c.in_ok-push.ensures.items)
      (All-append (λ (x : MemDevice). HoldsNothing (mem_state x)) c.loop-alloc.nodes.items (c.in_ok-memory_device.field-0 ∷ []) c.loop-alloc.invariant.each (one c.in_ok-memory_device.field-0 c.in_ok-memory_device.ensures));
}
