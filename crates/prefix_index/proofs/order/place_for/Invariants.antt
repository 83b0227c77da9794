use Rattle.std.proofs.Common.{◌≡◌, ◌<◌, ◌≤◌, ◌-◌, ℕ, Some, length, slice_get}
use Rattle.prefix_index.specs.Entries.{IsBefore}
use Rattle.prefix_index.specs.Listing.{AreAscending}
use Rattle.prefix_index.specs.declared.entry.Entry.{Entry}
use Rattle.prefix_index.proofs.order.place_for.Given as goal

-- the entries in front are before this one, and the one at the end isn't
abbrev pub invariant-loop-low : goal.invariant-loop-low
invariant-loop-low l = record {
  inside : l.high ≤ length l.entries;
  apart : l.low ≤ l.high;
  below : AreAscending l.entries → (i : ℕ) (a : Entry) → i < l.low → slice_get l.entries i ≡ Some a → IsBefore a l.entry;
  above : (a : Entry) → slice_get l.entries l.high ≡ Some a → ¬ IsBefore a l.entry;
}

abbrev pub decreases-loop-low : goal.decreases-loop-low
decreases-loop-low l = l.high - l.low
