use Rattle.site_state.proofs.Orders.{goes_on}
use Rattle.site_state.proofs.laws.a_run_goes_on.Goals as goal

pub returns : goal.returns
returns c = goes_on
