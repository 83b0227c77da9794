use Rattle.site_stands.proofs.Finding.Event.{found_event}
use Rattle.site_stands.proofs.look.what_is_listed_may_be_found.Goals as goal

pub returns : goal.returns
returns c = found_event
