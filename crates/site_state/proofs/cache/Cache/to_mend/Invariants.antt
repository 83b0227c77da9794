use Rattle.std.proofs.Common.{◌≡◌, drop, find}
use Rattle.site_state.specs.Shown.{mends}
use Rattle.site_state.proofs.cache.Cache.to_mend.Given as goal

-- none of those before is to be looked after
abbrev pub invariant-loop-set : goal.invariant-loop-set
invariant-loop-set l = find mends (drop l.set-index l.set-items) ≡ find mends l.set-items
