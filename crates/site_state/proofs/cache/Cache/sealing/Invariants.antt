use Rattle.std.proofs.Common.{◌≡◌, drop, find}
use Rattle.site_state.specs.Choosing.{seals}
use Rattle.site_state.proofs.cache.Cache.sealing.Given as goal

-- none of those before is being sealed
abbrev pub invariant-loop-set : goal.invariant-loop-set
invariant-loop-set l = find seals (drop l.set-index l.set-items) ≡ find seals l.set-items
