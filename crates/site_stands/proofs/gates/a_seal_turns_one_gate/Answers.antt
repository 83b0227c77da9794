use Rattle.site_stands.proofs.Turning.Sealed.{sealed_turn}
use Rattle.site_stands.proofs.gates.a_seal_turns_one_gate.Goals as goal

pub returns : goal.returns
returns c = sealed_turn
