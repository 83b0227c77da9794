use Rattle.std.proofs.Common.{◌≡◌, ◌<◌, ◌≤◌, ℕ, length, slice_index}
use Rattle.node_device.proofs.changes.put_back_first.Given as goal

abbrev pub invariant-loop-k : goal.invariant-loop-k
invariant-loop-k l = record {
  inside : (j : ℕ) → j < l.k → j < length l.fn.bytes → slice_index l.bytes j ≡ slice_index l.first j;
  outside : (j : ℕ) → l.k ≤ j → slice_index l.bytes j ≡ slice_index l.fn.bytes j;
}
