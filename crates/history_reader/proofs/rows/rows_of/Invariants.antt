use Rattle.std.proofs.Common.{◌≡◌, ◌++◌, length}
use Rattle.std.specs.List.{AllByRecursion}
use Rattle.history_reader.specs.Pieces.{each_before}
use Rattle.history_reader.specs.Reading.{each_read, parts}
use Rattle.history_reader.proofs.RowLaws.{with_front}
use Rattle.history_reader.proofs.rows.rows_of.Given as goal

-- the rows so far, each with the byte behind it, and then the rest; the rows so far and those of the rest are those of all
abbrev pub invariant-loop-word : goal.invariant-loop-word
invariant-loop-word g l = record {
  text : l.bytes ≡ each_before l.separator g.R.Row.text l.rows.items ++ l.rest;
  fits : AllByRecursion g.R.Row.fits l.rows.items;
  gives : with_front l.rows.items (each_read g.R.Row.read (parts l.separator l.rest)) ≡ each_read g.R.Row.read (parts l.separator l.bytes);
}

abbrev pub decreases-loop-word : goal.decreases-loop-word
decreases-loop-word g l = length l.rest
