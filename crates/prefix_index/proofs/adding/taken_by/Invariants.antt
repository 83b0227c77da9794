use Rattle.std.proofs.Common.{◌≡◌, ◌≢◌, ◌<◌, ℕ, Some, slice_get}
use Rattle.prefix_index.specs.declared.entry.Entry.{Entry}
use Rattle.prefix_index.proofs.adding.taken_by.Given as goal

-- none of the entries so far has the name
abbrev pub invariant-loop-entry : goal.invariant-loop-entry
invariant-loop-entry l = (k : ℕ) (e : Entry) → k < l.entry-index → slice_get l.entries k ≡ Some e → e.desc.name ≢ l.name
