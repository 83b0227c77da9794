use Rattle.site_stands.proofs.Moving.Datasets.{free_step, kept_step}
use Rattle.site_stands.proofs.moves.a_moved_dataset_alone_is_left_to_show.Goals as goal

pub returns-clause-free : goal.returns-clause-free
returns-clause-free c = free_step

pub returns-clause-kept : goal.returns-clause-kept
returns-clause-kept c = kept_step
