use Rattle.std.proofs.Common.{◌≡◌, ℕ, List, map}
use Rattle.scr_base.specs.declared.change.Change.TheVariants.{Remove}
use Rattle.prefix_store.specs.ClearSteps.{Picks}
use Rattle.prefix_store.proofs.clearing.removals_among.Given as goal

abbrev pub invariant-loop-name : goal.invariant-loop-name
invariant-loop-name l = (picked : List (List ℕ)) × (l.changes.items ≡ map Remove picked) × Picks l.folder l.names l.name-index picked
