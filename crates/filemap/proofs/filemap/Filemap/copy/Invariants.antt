use Rattle.std.proofs.Common.{◌≡◌, take}
use Rattle.filemap.proofs.filemap.Filemap.copy.Given as goal

-- the ranks so far equal the front of the original's
abbrev pub invariant-loop-rows : goal.invariant-loop-rows
invariant-loop-rows l = l.ranks.items ≡ take l.rows-index l.rows-items
