use Rattle.evict_core.proofs.Beginning.{dropped_begins}
use Rattle.evict_core.proofs.laws.a_dropped_dataset_begins_to_leave.Goals as goal

pub returns : goal.returns
returns c = dropped_begins
