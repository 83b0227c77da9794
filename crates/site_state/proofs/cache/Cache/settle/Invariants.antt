use Rattle.std.proofs.Common.{◌≡◌, ◌++◌, map, take, drop}
use Rattle.site_state.specs.Shown.{settled_if}
use Rattle.site_state.proofs.cache.Cache.settle.Given as goal

-- those before are so, the others as they were
abbrev pub invariant-loop-set : goal.invariant-loop-set
invariant-loop-set l = l.set-items ≡ map (settled_if l.which) (take l.set-index l.initial.set-items) ++ drop l.set-index l.initial.set-items
