use Rattle.std.proofs.Common.{◌≡◌, ◌≤◌, ◌+◌, length}
use Rattle.script_reader.specs.Words.{pieces_of}
use Rattle.script_reader.specs.Readers.{progress_of}
use Rattle.script_reader.specs.Grammar.{lines_read}
use Rattle.script_reader.proofs.reading.read_lines.Given as goal

-- what is left gives what the whole text gives, and there are no more lines than bytes
abbrev pub invariant-loop-place : goal.invariant-loop-place
invariant-loop-place l = record {
  so_far : lines_read 1 (progress_of l.fn.reader) (pieces_of 10 l.text) ≡ lines_read l.line (progress_of l.reader) (pieces_of 10 l.rest);
  few : l.line + length l.rest ≤ length l.text + 1;
}

abbrev pub decreases-loop-place : goal.decreases-loop-place
decreases-loop-place l = length l.rest
