use Rattle.site_stands.proofs.Turning.Gates.{run_way}
use Rattle.site_stands.proofs.gates.a_number_on_its_way_is_of_this_run_or_the_next.Goals as goal

pub returns : goal.returns
returns c = run_way
