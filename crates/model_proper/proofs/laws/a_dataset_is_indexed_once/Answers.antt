use Rattle.model_proper.proofs.Next.{indexed_next}
use Rattle.model_proper.proofs.laws.a_dataset_is_indexed_once.Goals as goal

pub returns : goal.returns
returns c = indexed_next
