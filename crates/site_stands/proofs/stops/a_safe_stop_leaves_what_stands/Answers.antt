use Rattle.site_stands.proofs.Safety.AtRest.{safe_stands}
use Rattle.site_stands.proofs.stops.a_safe_stop_leaves_what_stands.Goals as goal

pub returns : goal.returns
returns c = safe_stands
