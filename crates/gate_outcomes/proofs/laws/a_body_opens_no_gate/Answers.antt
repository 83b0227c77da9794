use Rattle.gate_outcomes.proofs.Stays.{body_shut}
use Rattle.gate_outcomes.proofs.laws.a_body_opens_no_gate.Goals as goal

pub returns : goal.returns
returns c = body_shut
