use Rattle.std.proofs.Common.{◌<◌, ℕ}
use Rattle.filemap.specs.Rows.{IsRows}
use Rattle.filemap.specs.Maps.{rows_of}
use Rattle.prefix_index.proofs.tree.know_rows.Given as goal

abbrev pub invariant-loop-rank : goal.invariant-loop-rank
invariant-loop-rank l = (k : ℕ) → k < l.rank → IsRows (rows_of l.files k)
