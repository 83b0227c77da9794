use Rattle.std.proofs.Common.{◌≡◌, None, take, fold}
use Rattle.scr_base.specs.Index.{later_id}
use Rattle.prefix_index.specs.Marks.{flushed_ids}
use Rattle.prefix_index.proofs.marks.last_flushed.Given as goal

-- the one of the largest id of the flushed entries so far
abbrev pub invariant-loop-entry : goal.invariant-loop-entry
invariant-loop-entry l = l.last ≡ fold later_id None (flushed_ids (take l.entry-index l.entries))
