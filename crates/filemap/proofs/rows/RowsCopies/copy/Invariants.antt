use Rattle.std.proofs.Common.{◌≡◌, take}
use Rattle.filemap.proofs.rows.RowsCopies.copy.Given as goal

-- the files so far equal the front of the original's
abbrev pub invariant-loop-row : goal.invariant-loop-row
invariant-loop-row l = l.rows.items ≡ take l.row-index l.self
