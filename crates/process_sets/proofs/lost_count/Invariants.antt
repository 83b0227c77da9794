use Rattle.std.proofs.Common.{◌≡◌, ◌≤◌, length, take}
use Rattle.std.specs.List.{filter}
use Rattle.scr_base.specs.Sets.{numbers_below}
use Rattle.process_sets.specs.Group.{members_of, is_lost}
use Rattle.process_sets.proofs.lost_count.Given as goal

abbrev pub invariant-loop-member : goal.invariant-loop-member
invariant-loop-member l = record {
  count : l.count ≡ length (filter (is_lost (members_of l.nodes l.groups l.group) l.lost.items) (take l.member (numbers_below (length (members_of l.nodes l.groups l.group)))));
  most : l.count ≤ l.member;
}
