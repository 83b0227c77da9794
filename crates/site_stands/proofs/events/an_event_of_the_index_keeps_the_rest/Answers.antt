use Rattle.site_stands.proofs.Changes.Prefix.{prefix_event}
use Rattle.site_stands.proofs.events.an_event_of_the_index_keeps_the_rest.Goals as goal

pub returns : goal.returns
returns c = prefix_event
