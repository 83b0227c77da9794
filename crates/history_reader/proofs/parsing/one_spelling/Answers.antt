use Rattle.history_reader.proofs.Lines.{one_history}
use Rattle.history_reader.proofs.parsing.one_spelling.Goals as goal

pub returns : goal.returns
returns c = one_history
