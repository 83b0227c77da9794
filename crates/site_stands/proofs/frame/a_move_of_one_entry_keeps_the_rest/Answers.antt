use Rattle.site_stands.proofs.Keeping.Kept.{entry_step}
use Rattle.site_stands.proofs.frame.a_move_of_one_entry_keeps_the_rest.Goals as goal

pub returns : goal.returns
returns c = entry_step
