use Rattle.std.proofs.Common.{◌≡◌, ℕ, ◌+◌, ◌%◌, ◌<◌, ◌&&◌, not, true, length}
use Rattle.process_sets.specs.Group.{members_of, is_lost}
use Rattle.process_sets.proofs.bears_neighbours.Given as goal

abbrev pub invariant-loop-member : goal.invariant-loop-member
invariant-loop-member l = (k : ℕ) → k < l.member
    → not (is_lost (members_of l.nodes l.groups l.group) l.lost.items k && is_lost (members_of l.nodes l.groups l.group) l.lost.items ((k + 1) % length (members_of l.nodes l.groups l.group))) ≡ true
