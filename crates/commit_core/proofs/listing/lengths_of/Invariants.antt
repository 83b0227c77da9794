use Rattle.std.proofs.Common.{◌≡◌, ◌+◌, ◌-◌, ◌*◌, ◌≤◌, length, map, take, slice_index}
use Rattle.scr_base.specs.Sets.{group_count, nodes_of_group, ranks_of_set}
use Rattle.commit_core.proofs.listing.lengths_of.Given as goal

abbrev pub invariant-loop-node : goal.invariant-loop-node
invariant-loop-node l = record {
  next : l.node ≡ length l.own.items * group_count l.sets.nodes l.sets.size + l.group;
  within : length l.own.items ≤ length (nodes_of_group l.sets.nodes l.sets.size l.group);
  own : l.own.items ≡ map (slice_index l.lengths) (take (length l.own.items) (ranks_of_set l.sets.nodes l.ranks l.sets.size l.group l.local));
}

abbrev pub decreases-loop-node : goal.decreases-loop-node
decreases-loop-node l = l.sets.nodes - l.node
