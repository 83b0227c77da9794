use Rattle.halt_file.proofs.Told.{same_halt}
use Rattle.halt_file.proofs.payload.told.Goals as goal

pub returns : goal.returns
returns c = same_halt _ _ _ _ _ _ c.checkpoints_in.ensures c.number_under.ensures c.number_under-2.ensures c.number_under-3.ensures c.in_ok-name_under.ensures
