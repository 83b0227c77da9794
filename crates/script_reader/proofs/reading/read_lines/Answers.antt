use Rattle.std.proofs.Common.{◌<◌, length, sym, arith}
use Rattle.std.proofs.lemmas.List.{drop-drop}
use Rattle.script_reader.specs.Readers.{progress_of}
use Rattle.script_reader.proofs.Lines.{line_taken, line_fails, lines_done, place_within}
use Rattle.script_reader.proofs.reading.read_lines.Goals as goal

pub returns-in-Err : goal.returns-in-Err
returns-in-Err c =
    rw c.at_line.ensures
    (line_fails c.in-Err.error c.loop-place.line (progress_of c.loop-place.reader) c.loop-place.rest.now c.in-Some.place _ (sym c.in-Some.ensures)
    (rw c.split_at.ensures.front at c.in-Err.ensures) c.loop-place.invariant.so_far)

pub loop-place-preserved : goal.loop-place-preserved
loop-place-preserved c = record {
  so_far =
      rw (c.split_at-in-Some.ensures.back, c.split_at.ensures.back, drop-drop 1 c.in-Some.place c.loop-place.rest.now)
      (line_taken c.loop-place.line (progress_of c.loop-place.reader) (progress_of c.read_line.new.self) c.loop-place.rest.now c.in-Some.place _ (sym c.in-Some.ensures)
      (rw c.split_at.ensures.front at c.in_default-read_line.ensures) c.loop-place.invariant.so_far);
  few = let within : c.in-Some.place < length c.loop-place.rest.now = place_within c.loop-place.rest.now c.in-Some.place (sym c.in-Some.ensures) in omega arith;
}

pub returns : goal.returns
returns c = lines_done c.loop-place.line (progress_of c.loop-place.reader) c.loop-place.rest.now _ (sym c.in_default.ensures) c.loop-place.invariant.so_far
