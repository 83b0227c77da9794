use Rattle.site_stands.proofs.Safety.Made.{made_safe}
use Rattle.site_stands.proofs.stops.a_stop_is_safe.Goals as goal

pub returns : goal.returns
returns c = made_safe
