use Rattle.std.proofs.Common.{◌≡◌, ◌<◌, ◌≤◌, ℕ, false, length, get_or, slice_index, if◌then◌else◌}
use Rattle.node_device.proofs.changes.scramble_first.Given as goal

abbrev pub invariant-loop-k : goal.invariant-loop-k
invariant-loop-k l = record {
  inside : (j : ℕ) → j < l.k → j < length l.fn.bytes → slice_index l.bytes j ≡ (if get_or l.written j false then 0xA5 else slice_index l.fn.bytes j);
  outside : (j : ℕ) → l.k ≤ j → slice_index l.bytes j ≡ slice_index l.fn.bytes j;
}
