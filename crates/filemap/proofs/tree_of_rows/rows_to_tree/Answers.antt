use Rattle.std.proofs.Common.{◌∙◌, arith}
use Rattle.filemap.specs.Maps.{file_tree}
use Rattle.filemap.proofs.Numbering.{put_at}
use Rattle.filemap.proofs.tree_of_rows.rows_to_tree.Goals as goal

pub loop-row-preserved : goal.loop-row-preserved
loop-row-preserved c = record {
  so_far = c.in_ok-put.ensures.ok ∙ put_at file_tree c.list-list.result.now c.loop-row.row-index c.row-item.result c.loop-row.tree c.two_digits.result c.in_ok-file.file c.loop-row.number (omega arith) (omega (arith, c.list-list.ensures.rows.few)) c.row-item.is c.loop-row.invariant.so_far c.two_digits.ensures c.loop-row.invariant.at_index c.in_ok-file.ensures;
  at_index = omega arith;
}
