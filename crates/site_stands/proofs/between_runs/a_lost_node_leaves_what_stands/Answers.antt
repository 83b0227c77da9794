use Rattle.site_stands.proofs.Losing.BetweenRuns.{lose_stands}
use Rattle.site_stands.proofs.between_runs.a_lost_node_leaves_what_stands.Goals as goal

pub returns : goal.returns
returns c = lose_stands
