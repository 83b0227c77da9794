use Rattle.std.proofs.Common.{[], subst, arith}
use Rattle.std.proofs.lemmas.List.{get_or_default}
use Rattle.filemap.specs.Rows.{IsRows}
use Rattle.member_store.proofs.tree.know_rows.Goals as goal

pub returns-clause-rows : goal.returns-clause-rows
returns-clause-rows c = λ k d lt. subst IsRows (get_or_default c.args.files.now k [] d lt) (c.loop-rank.invariant k (omega (arith, lt, c.ranks-rank-end.ensures.ranks, c.loop-rank-test.false)))
