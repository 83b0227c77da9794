use Rattle.std.proofs.Common.{◌≡◌, false, replicate}
use Rattle.recover_core.proofs.marks.Marks.none.Given as goal

abbrev pub invariant-loop : goal.invariant-loop
invariant-loop l = l.marks.items ≡ replicate l.counter false
