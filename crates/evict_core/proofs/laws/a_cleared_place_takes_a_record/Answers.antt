use Rattle.evict_core.proofs.Beginning.{cleared_shut}
use Rattle.evict_core.proofs.laws.a_cleared_place_takes_a_record.Goals as goal

pub returns : goal.returns
returns c = cleared_shut
