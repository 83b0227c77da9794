use Rattle.site_stands.proofs.Turning.Gates.{gates_unsealed, gates_stand, gates_of_kept}
use Rattle.site_stands.proofs.gates.gates_tell_how_a_dataset_stands.Goals as goal

pub returns-clause-unsealed : goal.returns-clause-unsealed
returns-clause-unsealed c = gates_unsealed

pub returns-clause-stands : goal.returns-clause-stands
returns-clause-stands c = gates_stand

pub returns-clause-open : goal.returns-clause-open
returns-clause-open c = gates_of_kept
