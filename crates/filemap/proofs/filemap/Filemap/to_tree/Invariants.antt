use Rattle.std.proofs.Common.{◌≡◌, take}
use Rattle.std.specs.Prelude.{map}
use Rattle.filemap.specs.Numbered.{numbered}
use Rattle.filemap.specs.Maps.{rows_tree}
use Rattle.filemap.proofs.filemap.Filemap.to_tree.Given as goal

-- the tree so far
abbrev pub invariant-loop-rows : goal.invariant-loop-rows
invariant-loop-rows l = record { so_far : l.tree ≡ numbered 0 (map rows_tree (take l.rows-index l.rows-items)); at_index : l.rank ≡ l.rows-index }
