use Rattle.std.proofs.Common.{◌≡◌, take}
use Rattle.std.specs.Prelude.{map}
use Rattle.filemap.specs.Numbered.{numbered}
use Rattle.filemap.specs.Maps.{file_tree}
use Rattle.filemap.proofs.tree_of_rows.rows_to_tree.Given as goal

-- the tree so far
abbrev pub invariant-loop-row : goal.invariant-loop-row
invariant-loop-row l = record { so_far : l.tree ≡ numbered 0 (map file_tree (take l.row-index l.list)); at_index : l.number ≡ l.row-index }
