use Rattle.std.proofs.Common.{◌≡◌, map, filter}
use Rattle.site_state.specs.Looks.{is_standing, found_member}
use Rattle.site_state.proofs.cache.Cache.found.Given as goal

-- those of the members before that stand are there
abbrev pub invariant-loop-member : goal.invariant-loop-member
invariant-loop-member l = l.sets.items ≡ map found_member (filter is_standing l.yielded)
