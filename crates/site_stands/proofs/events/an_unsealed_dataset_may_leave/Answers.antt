use Rattle.site_stands.proofs.Changes.Nodes.{drop_event}
use Rattle.site_stands.proofs.events.an_unsealed_dataset_may_leave.Goals as goal

pub returns : goal.returns
returns c = drop_event
