use Rattle.std.proofs.Common.{◌≡◌, map, take}
use Rattle.site_state.specs.Shown.{row_of}
use Rattle.site_state.proofs.cache.Cache.rows.Given as goal

-- the rows of those before are there
abbrev pub invariant-loop-set : goal.invariant-loop-set
invariant-loop-set l = l.rows.items ≡ map row_of (take l.set-index l.set-items)
