use Rattle.model_proper.proofs.Next.{sealed_next}
use Rattle.model_proper.proofs.laws.a_dataset_is_sealed_once.Goals as goal

pub returns : goal.returns
returns c = sealed_next
