use Rattle.std.proofs.Common.{◌≡◌, map, filter}
use Rattle.recover_core.specs.Seen.{found_of, is_sealed}
use Rattle.recover_core.proofs.seen.found_among.Given as goal

-- those of the datasets before that are sealed are there
abbrev pub invariant-loop-set : goal.invariant-loop-set
invariant-loop-set l = l.found.items ≡ map (found_of l.nodes) (filter is_sealed l.yielded)
