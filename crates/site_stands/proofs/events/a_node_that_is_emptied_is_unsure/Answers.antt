use Rattle.site_stands.proofs.Changes.Nodes.{shaken_event}
use Rattle.site_stands.proofs.events.a_node_that_is_emptied_is_unsure.Goals as goal

pub returns : goal.returns
returns c = shaken_event
