use Rattle.site_stands.proofs.Changes.Nodes.{doubt_event}
use Rattle.site_stands.proofs.events.doubt_keeps_what_stands.Goals as goal

pub returns : goal.returns
returns c = doubt_event
