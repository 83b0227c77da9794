use Rattle.halt_file.proofs.Told.{halt_again, unspelled_is_unset}
use Rattle.halt_file.proofs.laws.payloads_tell.Goals as goal

pub returns-clause-spelled : goal.returns-clause-spelled
returns-clause-spelled c = halt_again

pub returns-clause-unspelled : goal.returns-clause-unspelled
returns-clause-unspelled c = unspelled_is_unset
