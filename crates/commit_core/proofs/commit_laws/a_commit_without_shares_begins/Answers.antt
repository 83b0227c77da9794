use Rattle.commit_core.proofs.Beginning.{single_begins}
use Rattle.commit_core.proofs.commit_laws.a_commit_without_shares_begins.Goals as goal

pub returns : goal.returns
returns c = single_begins
