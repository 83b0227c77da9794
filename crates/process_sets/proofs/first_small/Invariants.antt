use Rattle.std.proofs.Common.{◌≡◌, ℕ, ◌<◌, true, length}
use Rattle.scr_base.specs.Sets.{fits_set, nodes_of_group}
use Rattle.process_sets.proofs.first_small.Given as goal

abbrev pub invariant-loop-group : goal.invariant-loop-group
invariant-loop-group l = (i : ℕ) → i < l.group → fits_set l.scheme (length (nodes_of_group l.nodes l.size i)) ≡ true
