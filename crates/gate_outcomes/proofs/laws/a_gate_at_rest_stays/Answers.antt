use Rattle.gate_outcomes.proofs.Stays.{rest_shut, rest_whole}
use Rattle.gate_outcomes.proofs.laws.a_gate_at_rest_stays.Goals as goal

pub returns-clause-shut : goal.returns-clause-shut
returns-clause-shut c = rest_shut

pub returns-clause-whole : goal.returns-clause-whole
returns-clause-whole c = rest_whole
