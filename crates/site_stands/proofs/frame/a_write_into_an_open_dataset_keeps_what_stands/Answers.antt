use Rattle.site_stands.proofs.Changes.Nodes.{own_write}
use Rattle.site_stands.proofs.frame.a_write_into_an_open_dataset_keeps_what_stands.Goals as goal

pub returns : goal.returns
returns c = own_write
