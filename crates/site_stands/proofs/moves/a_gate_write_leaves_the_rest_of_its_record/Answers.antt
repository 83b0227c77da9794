use Rattle.site_stands.proofs.Moving.Records.{gate_written}
use Rattle.site_stands.proofs.moves.a_gate_write_leaves_the_rest_of_its_record.Goals as goal

pub returns : goal.returns
returns c = gate_written
