use Rattle.site_core.proofs.Carrying.{call_finds_none}
use Rattle.site_core.proofs.laws.a_call_finds_none_carried.Goals as goal

pub returns : goal.returns
returns c = call_finds_none
