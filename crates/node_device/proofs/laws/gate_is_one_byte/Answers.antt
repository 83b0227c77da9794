use Rattle.node_device.specs.Outcomes.{torn_byte}
use Rattle.node_device.proofs.laws.gate_is_one_byte.Goals as goal

pub returns : goal.returns
returns c = λ at f g bytes rest is inside torn after may. torn_byte at f g bytes after rest torn is inside may
