use Rattle.site_stands.proofs.Changes.Nodes.{nodes_event}
use Rattle.site_stands.proofs.events.an_event_of_the_nodes_keeps_the_rest.Goals as goal

pub returns : goal.returns
returns c = nodes_event
