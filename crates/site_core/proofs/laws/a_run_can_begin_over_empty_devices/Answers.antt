use Rattle.site_core.proofs.Empty.{empty_begins}
use Rattle.site_core.proofs.laws.a_run_can_begin_over_empty_devices.Goals as goal

pub returns : goal.returns
returns c = λ s states single empty. empty_begins s states single empty
