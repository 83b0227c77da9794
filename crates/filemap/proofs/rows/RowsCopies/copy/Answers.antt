use Rattle.std.proofs.Common.{◌≡◌, sym, subst, arith}
use Rattle.std.proofs.lemmas.Grind.{common_steps}
use Rattle.filemap.specs.Rows.{IsRows}
use Rattle.filemap.proofs.rows.RowsCopies.copy.Goals as goal

pub invariant_of-result : goal.invariant_of-result
invariant_of-result c =
    let all : c.loop-row.rows.items ≡ c.list-row-items.result.now = grind (arith, common_steps) in
    subst IsRows (sym all) c.list-row-items.ensures.rows
