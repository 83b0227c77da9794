use Rattle.site_stands.proofs.Losing.Node.{site_off}
use Rattle.site_stands.proofs.frame.a_bare_node_is_off.Goals as goal

pub returns : goal.returns
returns c = site_off
