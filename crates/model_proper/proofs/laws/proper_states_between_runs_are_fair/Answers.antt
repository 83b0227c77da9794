use Rattle.model_proper.proofs.Fair.Passes.{between_fair}
use Rattle.model_proper.proofs.laws.proper_states_between_runs_are_fair.Goals as goal

pub returns : goal.returns
returns c = between_fair
