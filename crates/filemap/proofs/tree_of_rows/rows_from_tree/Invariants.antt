use Rattle.std.proofs.Common.{◌≡◌, length}
use Rattle.std.specs.Prelude.{map}
use Rattle.filemap.specs.Rows.{IsRows}
use Rattle.filemap.specs.Maps.{file_tree}
use Rattle.filemap.proofs.Numbering.{Places}
use Rattle.filemap.proofs.tree_of_rows.rows_from_tree.Given as goal

-- the files so far stand at their places
abbrev pub invariant-loop-number : goal.invariant-loop-number
invariant-loop-number l = record { places : Places l.tree (map file_tree l.rows.items) l.number; are_rows : IsRows l.rows.items; count : length l.rows.items ≡ l.number }
