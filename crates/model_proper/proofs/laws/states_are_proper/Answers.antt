use Rattle.ckpt_model.specs.Machine.{empty_machine}
use Rattle.model_proper.proofs.Next.{empty_fair}
use Rattle.model_proper.proofs.Steps.{run_fair}
use Rattle.model_proper.proofs.laws.states_are_proper.Goals as goal

pub returns : goal.returns
returns c s events m fits runs = let fair = run_fair s empty_machine events m runs (empty_fair s fits) in fair.proper
