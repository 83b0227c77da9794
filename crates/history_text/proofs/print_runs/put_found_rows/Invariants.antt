use Rattle.std.proofs.Common.{◌≡◌, ◌++◌, take}
use Rattle.ckpt_model.specs.Text.{found_word}
use Rattle.history_reader.specs.Pieces.{each_after}
use Rattle.history_text.proofs.print_runs.put_found_rows.Given as goal

abbrev pub invariant-loop-row : goal.invariant-loop-row
invariant-loop-row l = l.out.items ≡ l.fn.out.items ++ each_after 32 found_word (take l.row-index l.rows)
