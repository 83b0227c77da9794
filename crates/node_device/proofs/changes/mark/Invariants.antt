use Rattle.std.proofs.Common.{◌≡◌, ◌<◌, ◌≤◌, ◌⊎◌, ℕ, true, false, length, get_or}
use Rattle.node_device.proofs.changes.mark.Given as goal

abbrev pub invariant-loop-k : goal.invariant-loop-k
invariant-loop-k l = record {
  reached : (l.k ≡ l.at) ⊎ (l.k ≤ l.end);
  size : length l.written ≡ 8;
  inside : (j : ℕ) → l.at ≤ j → j < l.k → get_or l.written j false ≡ true;
  outside : (j : ℕ) → (j < l.at) ⊎ (l.k ≤ j) → get_or l.written j false ≡ get_or l.fn.written j false;
}
