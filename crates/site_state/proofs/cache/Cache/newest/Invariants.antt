use Rattle.std.proofs.Common.{◌≡◌, drop}
use Rattle.std.specs.Prelude.{fold, option_copied, None}
use Rattle.site_state.specs.Choosing.{newer_with}
use Rattle.site_state.proofs.cache.Cache.newest.Given as goal

-- the best so far stands for the datasets so far
abbrev pub invariant-loop-set : goal.invariant-loop-set
invariant-loop-set l = fold newer_with (option_copied l.best) (drop l.set-index l.set-items) ≡ fold newer_with None l.set-items
