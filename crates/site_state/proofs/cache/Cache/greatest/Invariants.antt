use Rattle.std.proofs.Common.{◌≡◌, take}
use Rattle.site_state.specs.Shown.{greatest_id}
use Rattle.site_state.proofs.cache.Cache.greatest.Given as goal

-- it is the greatest of those before
abbrev pub invariant-loop-set : goal.invariant-loop-set
invariant-loop-set l = l.greatest ≡ greatest_id (take l.set-index l.set-items)
