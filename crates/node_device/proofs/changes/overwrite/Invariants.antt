use Rattle.std.proofs.Common.{◌≡◌, ◌<◌, ◌≤◌, ◌⊎◌, ◌+◌, ◌-◌, ℕ, slice_index}
use Rattle.node_device.proofs.changes.overwrite.Given as goal

abbrev pub invariant-loop-i : goal.invariant-loop-i
invariant-loop-i l = record {
  inside : (k : ℕ) → l.at ≤ k → k < l.at + l.i → slice_index l.bytes k ≡ slice_index l.new (k - l.at);
  outside : (k : ℕ) → (k < l.at) ⊎ (l.at + l.i ≤ k) → slice_index l.bytes k ≡ slice_index l.fn.bytes k;
}
