use Rattle.std.proofs.Common.{◌≡◌, ◌<◌, ◌≤◌, ◌-◌, ℕ, Some, length, slice_get}
use Rattle.member_store.specs.Members.{IsBefore}
use Rattle.member_store.specs.Scanning.{AreAscending}
use Rattle.member_store.specs.declared.member.Member.{Member}
use Rattle.member_store.proofs.order.place_for.Given as goal

-- the members below `low` are before this one, and the one at `high` isn't
abbrev pub invariant-loop-low : goal.invariant-loop-low
invariant-loop-low l = record {
  inside : l.high ≤ length l.members;
  apart : l.low ≤ l.high;
  before : AreAscending l.members → (i : ℕ) (a : Member) → i < l.low → slice_get l.members i ≡ Some a → IsBefore a l.member;
  stop : AreAscending l.members → (a : Member) → slice_get l.members l.high ≡ Some a → ¬ IsBefore a l.member;
}

abbrev pub decreases-loop-low : goal.decreases-loop-low
decreases-loop-low l = l.high - l.low
