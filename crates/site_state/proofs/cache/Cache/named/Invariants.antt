use Rattle.std.proofs.Common.{◌≡◌, drop}
use Rattle.std.specs.Prelude.{find, bytes_eq}
use Rattle.site_state.specs.declared.cache.Cached.{Cached}
use Rattle.site_state.proofs.cache.Cache.named.Given as goal

-- the datasets so far have other names
abbrev pub invariant-loop-set : goal.invariant-loop-set
invariant-loop-set l = find (λ (set : Cached). bytes_eq set.manifest.desc.name l.name) (drop l.set-index l.set-items) ≡ find (λ (set : Cached). bytes_eq set.manifest.desc.name l.name) l.set-items
