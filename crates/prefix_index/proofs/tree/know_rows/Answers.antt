use Rattle.std.proofs.Common.{[], subst, arith}
use Rattle.std.proofs.lemmas.List.{get_or_default}
use Rattle.filemap.specs.Rows.{IsRows}
use Rattle.prefix_index.proofs.tree.know_rows.Goals as goal

pub returns : goal.returns
returns c = λ k d lt. subst IsRows (get_or_default c.args.files.now k [] d lt) (c.loop-rank.invariant k (omega (arith, lt, c.requires, c.loop-rank-test.false)))
