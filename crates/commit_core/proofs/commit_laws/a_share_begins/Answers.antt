use Rattle.commit_core.proofs.ShareFacts.{pieces_begin_at}
use Rattle.commit_core.proofs.commit_laws.a_share_begins.Goals as goal

pub returns : goal.returns
returns c = pieces_begin_at
