use Rattle.site_stands.proofs.Keeping.Kept.{dataset_step}
use Rattle.site_stands.proofs.frame.a_move_of_one_dataset_keeps_the_rest.Goals as goal

pub returns : goal.returns
returns c = dataset_step
