use Rattle.site_stands.proofs.Losing.Empty.{empty_stands}
use Rattle.site_stands.proofs.between_runs.empty_devices_stand.Goals as goal

pub returns : goal.returns
returns c = empty_stands
