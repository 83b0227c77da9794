use Rattle.std.proofs.Common.{◌≡◌, ◌<◌, ◌≤◌, ◌⊎◌, ℕ, slice_index}
use Rattle.node_device.proofs.changes.scramble_range.Given as goal

abbrev pub invariant-loop-k : goal.invariant-loop-k
invariant-loop-k l = record {
  reached : (l.k ≡ l.at) ⊎ (l.k ≤ l.end);
  inside : (j : ℕ) → l.at ≤ j → j < l.k → slice_index l.bytes j ≡ 0xA5;
  outside : (j : ℕ) → (j < l.at) ⊎ (l.k ≤ j) → slice_index l.bytes j ≡ slice_index l.fn.bytes j;
}
