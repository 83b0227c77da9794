use Rattle.std.proofs.Common.{◌≡◌, ◌≢◌, ◌<◌, ℕ, Some, slice_get}
use Rattle.prefix_index.specs.declared.entry.Entry.{Entry}
use Rattle.prefix_index.proofs.dropping.with_id.Given as goal

-- none of the entries so far has the id
abbrev pub invariant-loop-entry : goal.invariant-loop-entry
invariant-loop-entry l = (k : ℕ) (e : Entry) → k < l.entry-index → slice_get l.entries k ≡ Some e → e.desc.which.id ≢ l.id
