use Rattle.site_stands.proofs.Turning.Gates.{gate_synced}
use Rattle.site_stands.proofs.gates.a_sync_ends_the_turn_of_a_gate.Goals as goal

pub returns : goal.returns
returns c = gate_synced
