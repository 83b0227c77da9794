use Rattle.script_reader.proofs.Spellings.{line_back}
use Rattle.script_reader.proofs.laws.lines_are_read_back.Goals as goal

pub returns : goal.returns
returns c = λ z l site is. line_back z l site is
