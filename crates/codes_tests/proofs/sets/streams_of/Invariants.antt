use Rattle.std.proofs.Common.{◌≡◌, length}
use Rattle.codes_tests.proofs.sets.streams_of.Given as goal

abbrev pub invariant-loop-i : goal.invariant-loop-i
invariant-loop-i l = length l.streams.items ≡ l.i
