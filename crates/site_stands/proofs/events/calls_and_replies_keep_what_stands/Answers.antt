use Rattle.site_stands.proofs.Changes.Prefix.{site_same}
use Rattle.site_stands.proofs.events.calls_and_replies_keep_what_stands.Goals as goal

pub returns : goal.returns
returns c = site_same
