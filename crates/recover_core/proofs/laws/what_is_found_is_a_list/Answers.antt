use Rattle.recover_core.proofs.Listing.{listed}
use Rattle.recover_core.proofs.laws.what_is_found_is_a_list.Goals as goal

pub returns : goal.returns
returns c = listed
