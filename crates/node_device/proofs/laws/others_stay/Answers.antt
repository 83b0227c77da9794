use Rattle.std.proofs.Common.{subst}
use Rattle.node_device.specs.File.{File, MayLeave}
use Rattle.node_device.proofs.laws.others_stay.Goals as goal

pub returns : goal.returns
returns c = λ name old new only after may q other. subst (λ (f : File). MayLeave f (after q)) (only.others q other) (may q)
