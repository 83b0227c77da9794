use Rattle.std.proofs.Common.{ℕ, ◌≤◌, ◌<◌, ◌≢◌, length, get_or}
use Rattle.history_reader.proofs.cuts.last_place_of.Given as goal

-- no such byte stands from the end of what is left on
abbrev pub invariant-loop-end : goal.invariant-loop-end
invariant-loop-end l = record { within : l.end ≤ length l.bytes; none_behind : (k : ℕ) → l.end ≤ k → k < length l.bytes → get_or l.bytes k 0 ≢ l.byte }

abbrev pub decreases-loop-end : goal.decreases-loop-end
decreases-loop-end l = l.end
