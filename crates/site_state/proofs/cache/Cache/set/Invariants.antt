use Rattle.std.proofs.Common.{◌≡◌, drop}
use Rattle.std.specs.Prelude.{find}
use Rattle.scr_base.specs.Same.{same_id}
use Rattle.site_state.specs.declared.cache.Cached.{Cached}
use Rattle.site_state.proofs.cache.Cache.set.Given as goal

-- the datasets so far are others
abbrev pub invariant-loop-set : goal.invariant-loop-set
invariant-loop-set l = find (λ (set : Cached). same_id set.manifest.desc.which l.which) (drop l.set-index l.set-items) ≡ find (λ (set : Cached). same_id set.manifest.desc.which l.which) l.set-items
