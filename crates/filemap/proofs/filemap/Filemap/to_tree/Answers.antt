use Rattle.std.proofs.Common.{◌∙◌, arith}
use Rattle.filemap.specs.Maps.{rows_tree}
use Rattle.filemap.proofs.Numbering.{put_at}
use Rattle.filemap.proofs.filemap.Filemap.to_tree.Goals as goal

pub loop-rows-preserved : goal.loop-rows-preserved
loop-rows-preserved c = record {
  so_far = c.in_ok-put.ensures.ok ∙ put_at rows_tree c.deref-rows-items.result.now c.loop-rows.rows-index c.rows-item.result c.loop-rows.tree c.two_digits.result c.in_ok-files.files c.loop-rows.rank (omega arith) (omega arith) c.rows-item.is c.loop-rows.invariant.so_far c.two_digits.ensures c.loop-rows.invariant.at_index c.in_ok-files.ensures;
  at_index = omega arith;
}
