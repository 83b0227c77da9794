use Rattle.std.proofs.Common.{◌≡◌, ◌++◌, All, length}
use Rattle.ckpt_model.specs.Text.{history_text}
use Rattle.history_reader.specs.Spelled.{IsPrintable}
use Rattle.history_reader.proofs.Lines.{Follows}
use Rattle.history_reader.proofs.parsing.parse.Given as goal

-- what was read and the rest are the text, and any history of this text goes on from there
abbrev pub invariant-loop-rest : goal.invariant-loop-rest
invariant-loop-rest l = record {
  text : l.bytes ≡ history_text l.history.events ++ l.rest;
  printable : All IsPrintable l.history.events;
  follows : Follows l.bytes l.history.events l.rest;
}

abbrev pub decreases-loop-rest : goal.decreases-loop-rest
decreases-loop-rest l = length l.rest
