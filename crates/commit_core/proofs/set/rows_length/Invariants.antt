use Rattle.std.proofs.Common.{◌≡◌, ◌≤◌, ◌*◌, take}
use Rattle.commit_core.specs.Sets.{rows_length}
use Rattle.commit_core.proofs.set.rows_length.Given as goal

abbrev pub invariant-loop-i : goal.invariant-loop-i
invariant-loop-i l = record { sum : l.length ≡ rows_length (take l.i l.rows); low : l.length ≤ l.i * 1048576 }
