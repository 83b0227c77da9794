use Rattle.gate_outcomes.proofs.Stays.{synced_shut, synced_open, synced_whole}
use Rattle.gate_outcomes.proofs.laws.a_sync_leaves_no_more.Goals as goal

pub returns-clause-shut : goal.returns-clause-shut
returns-clause-shut c = synced_shut

pub returns-clause-stays_open : goal.returns-clause-stays_open
returns-clause-stays_open c = synced_open

pub returns-clause-whole : goal.returns-clause-whole
returns-clause-whole c = synced_whole
