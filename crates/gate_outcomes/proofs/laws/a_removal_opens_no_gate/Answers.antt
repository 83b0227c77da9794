use Rattle.gate_outcomes.proofs.Stays.{removed_shut}
use Rattle.gate_outcomes.proofs.laws.a_removal_opens_no_gate.Goals as goal

pub returns : goal.returns
returns c = removed_shut
