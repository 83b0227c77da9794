use Rattle.site_stands.proofs.Changes.Nodes.{sealing_event}
use Rattle.site_stands.proofs.events.a_whole_dataset_may_come.Goals as goal

pub returns : goal.returns
returns c = sealing_event
