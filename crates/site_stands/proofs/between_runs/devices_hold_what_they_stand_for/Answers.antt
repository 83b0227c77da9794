use Rattle.site_stands.proofs.Safety.AtRest.{stands_hold}
use Rattle.site_stands.proofs.between_runs.devices_hold_what_they_stand_for.Goals as goal

pub returns : goal.returns
returns c = stands_hold
