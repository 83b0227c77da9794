use Rattle.evict_core.proofs.Beginning.{settled_begins}
use Rattle.evict_core.proofs.laws.a_settled_dataset_begins_to_leave.Goals as goal

pub returns : goal.returns
returns c = settled_begins
