use Rattle.script_reader.proofs.ScriptTexts.{script_back}
use Rattle.script_reader.proofs.laws.scripts_are_read_back.Goals as goal

pub returns : goal.returns
returns c = λ j is. script_back j is
