use Rattle.std.proofs.Common.{◌≡◌, false, take}
use Rattle.scr_base.specs.Index.{is_id_among}
use Rattle.prefix_index.specs.Marks.{flushed_ids}
use Rattle.prefix_index.proofs.marks.is_flushed.Given as goal

-- it is none of the entries so far
abbrev pub invariant-loop-entry : goal.invariant-loop-entry
invariant-loop-entry l = is_id_among (flushed_ids (take l.entry-index l.entries)) l.which ≡ false
