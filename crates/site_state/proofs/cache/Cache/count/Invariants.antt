use Rattle.std.proofs.Common.{◌≡◌, drop}
use Rattle.std.specs.List.{list_any}
use Rattle.site_state.specs.Choosing.{is_checkpoint_one}
use Rattle.site_state.proofs.cache.Cache.count.Given as goal

-- none of those before is such a one
abbrev pub invariant-loop-set : goal.invariant-loop-set
invariant-loop-set l = list_any (is_checkpoint_one l.which) (drop l.set-index l.set-items) ≡ list_any (is_checkpoint_one l.which) l.set-items
