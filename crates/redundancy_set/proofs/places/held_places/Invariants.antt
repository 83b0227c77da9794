use Rattle.std.proofs.Common.{◌≡◌, take}
use Rattle.std.specs.List.{filter}
use Rattle.scr_base.specs.Sets.{numbers_below}
use Rattle.redundancy_set.specs.Sums.{is_there}
use Rattle.redundancy_set.proofs.places.held_places.Given as goal

abbrev pub invariant-loop-m : goal.invariant-loop-m
invariant-loop-m l = l.places.items ≡ filter (is_there l.members.items) (take l.m (numbers_below l.stripes.members))
