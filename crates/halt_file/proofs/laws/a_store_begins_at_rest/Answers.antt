use Rattle.halt_file.proofs.Stored.{begins_at_rest}
use Rattle.halt_file.proofs.laws.a_store_begins_at_rest.Goals as goal

pub returns : goal.returns
returns c = begins_at_rest
