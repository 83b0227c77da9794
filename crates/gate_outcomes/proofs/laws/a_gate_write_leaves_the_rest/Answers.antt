use Rattle.gate_outcomes.proofs.Stays.{torn_shut, torn_open, torn_body}
use Rattle.gate_outcomes.proofs.laws.a_gate_write_leaves_the_rest.Goals as goal

pub returns-clause-shut : goal.returns-clause-shut
returns-clause-shut c = torn_shut

pub returns-clause-stays_open : goal.returns-clause-stays_open
returns-clause-stays_open c = torn_open

pub returns-clause-body : goal.returns-clause-body
returns-clause-body c = torn_body
