use Rattle.site_stands.proofs.Changes.Nodes.{sync_keeps}
use Rattle.site_stands.proofs.frame.a_sync_leaves_no_more_of_any_file.Goals as goal

pub returns : goal.returns
returns c = sync_keeps
