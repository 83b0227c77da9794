use Rattle.std.proofs.Common.{◌≡◌, length}
use Rattle.std.specs.Prelude.{map, All}
use Rattle.filemap.specs.Rows.{IsRows}
use Rattle.filemap.specs.Maps.{rows_tree}
use Rattle.filemap.proofs.Numbering.{Places}
use Rattle.filemap.proofs.filemap.Filemap.from_tree.Given as goal

-- the ranks so far stand at their places
abbrev pub invariant-loop-rank : goal.invariant-loop-rank
invariant-loop-rank l = record { places : Places l.tree (map rows_tree l.list.items) l.rank; are_rows : All IsRows l.list.items; count : length l.list.items ≡ l.rank }
