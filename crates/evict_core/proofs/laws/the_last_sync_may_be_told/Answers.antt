use Rattle.evict_core.proofs.Beginning.{ends_may}
use Rattle.evict_core.proofs.laws.the_last_sync_may_be_told.Goals as goal

pub returns : goal.returns
returns c = ends_may
