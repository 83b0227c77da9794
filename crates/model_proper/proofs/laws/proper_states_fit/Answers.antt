use Rattle.model_proper.proofs.Next.{proper_fits, proper_named}
use Rattle.model_proper.proofs.laws.proper_states_fit.Goals as goal

pub returns-clause-fits : goal.returns-clause-fits
returns-clause-fits c = proper_fits

pub returns-clause-named : goal.returns-clause-named
returns-clause-named c = proper_named
