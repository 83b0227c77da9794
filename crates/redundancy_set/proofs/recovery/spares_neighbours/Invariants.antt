use Rattle.std.proofs.Common.{◌≡◌, ℕ, ◌+◌, ◌%◌, ◌<◌, ◌&&◌, not, true}
use Rattle.scr_base.specs.Sets.{is_among}
use Rattle.redundancy_set.proofs.recovery.spares_neighbours.Given as goal

abbrev pub invariant-loop-i : goal.invariant-loop-i
invariant-loop-i l = (k : ℕ) → k < l.i → not (is_among k l.lost.items && is_among ((k + 1) % l.members) l.lost.items) ≡ true
