use Rattle.std.proofs.Common.{◌≡◌, ◌++◌, length}
use Rattle.ckpt_model.specs.Text.{hex_text}
use Rattle.history_reader.specs.Spelled.{FitsBytes}
use Rattle.history_reader.specs.Reading.{read_pairs}
use Rattle.history_reader.proofs.RowLaws.{with_front}
use Rattle.history_reader.proofs.read_bytes.pairs_of.Given as goal

-- the bytes so far and those of the rest are those of all
abbrev pub invariant-loop-high : goal.invariant-loop-high
invariant-loop-high l = record {
  text : l.digits ≡ hex_text l.bytes.items ++ l.rest;
  fits : FitsBytes l.bytes.items;
  gives : with_front l.bytes.items (read_pairs l.rest) ≡ read_pairs l.digits;
}

abbrev pub decreases-loop-high : goal.decreases-loop-high
decreases-loop-high l = length l.rest
