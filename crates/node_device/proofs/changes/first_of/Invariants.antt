use Rattle.std.proofs.Common.{◌≡◌, ◌<◌, ◌≤◌, ℕ, length, slice_index}
use Rattle.node_device.proofs.changes.first_of.Given as goal

abbrev pub invariant-loop-k : goal.invariant-loop-k
invariant-loop-k l = record {
  size : length l.first ≡ 8;
  inside : (j : ℕ) → j < l.k → slice_index l.first j ≡ slice_index l.bytes j;
  ahead : (j : ℕ) → l.k ≤ j → slice_index l.first j ≡ 0;
}
