use Rattle.std.proofs.Common.{◌≡◌, vec_len}
use Rattle.codes_bench.proofs.sets.streams_of.Given as goal

abbrev pub invariant-loop-i : goal.invariant-loop-i
invariant-loop-i l = vec_len l.streams ≡ l.i
