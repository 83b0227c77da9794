use Rattle.model_proper.proofs.Next.{open_alone}
use Rattle.model_proper.proofs.laws.an_open_dataset_is_alone.Goals as goal

pub returns : goal.returns
returns c = open_alone
