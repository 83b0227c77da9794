use Rattle.std.proofs.Common.{◌≡◌, length}
use Rattle.codes_tests.proofs.sets.lengths_of.Given as goal

abbrev pub invariant-loop-i : goal.invariant-loop-i
invariant-loop-i l = length l.lengths.items ≡ l.i
