use Rattle.site_stands.proofs.Turning.Sealed.{first_seal_refused}
use Rattle.site_stands.proofs.gates.a_refused_first_seal_is_safe.Goals as goal

pub returns : goal.returns
returns c = first_seal_refused
