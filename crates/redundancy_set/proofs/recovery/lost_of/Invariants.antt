use Rattle.std.proofs.Common.{◌≡◌, length, take}
use Rattle.std.specs.List.{filter}
use Rattle.scr_base.specs.Sets.{numbers_below}
use Rattle.redundancy_set.specs.Known.{is_lost}
use Rattle.redundancy_set.proofs.recovery.lost_of.Given as goal

abbrev pub invariant-loop-i : goal.invariant-loop-i
invariant-loop-i l = l.lost.items ≡ filter (is_lost l.members.items) (take l.i (numbers_below (length l.members.items)))
