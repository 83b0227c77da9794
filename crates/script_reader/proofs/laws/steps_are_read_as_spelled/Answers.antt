use Rattle.script_reader.proofs.StepLines.{step_line}
use Rattle.script_reader.proofs.laws.steps_are_read_as_spelled.Goals as goal

pub returns : goal.returns
returns c = λ z who first last s word meant is. step_line z who first last s word meant is
