use Rattle.std.proofs.Common.{length, ◌-◌, ◌≡◌, ℕ, ◌<◌, ◌≤◌, false, slice_index_or}
use Rattle.commit_core.specs.declared.standing.Standing.TheVariants.{Unclaimed}
use Rattle.commit_core.specs.LedgerBook.{is_unclaimed}
use Rattle.commit_core.proofs.ledger.first_unclaimed.Given as goal

abbrev pub invariant-loop-place : goal.invariant-loop-place
invariant-loop-place l = record {
  within : l.place ≤ length l.standings;
  before : (k : ℕ) → k < l.place → is_unclaimed (slice_index_or l.standings k Unclaimed) ≡ false;
}

abbrev pub decreases-loop-place : goal.decreases-loop-place
decreases-loop-place l = length l.standings - l.place
