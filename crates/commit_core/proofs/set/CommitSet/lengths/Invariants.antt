use Rattle.std.proofs.Common.{◌≡◌, map, take}
use Rattle.commit_core.specs.Sets.{rows_length}
use Rattle.commit_core.proofs.set.CommitSet.lengths.Given as goal

abbrev pub invariant-loop-rank : goal.invariant-loop-rank
invariant-loop-rank l = l.lengths.items ≡ map rows_length (take l.rank l.self.files)
