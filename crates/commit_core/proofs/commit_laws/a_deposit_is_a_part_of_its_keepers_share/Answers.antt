use Rattle.commit_core.proofs.ShareFacts.{deposit_fits}
use Rattle.commit_core.proofs.commit_laws.a_deposit_is_a_part_of_its_keepers_share.Goals as goal

pub returns : goal.returns
returns c = deposit_fits
