use Rattle.site_stands.proofs.Keeping.Kept.{site_kept}
use Rattle.site_stands.proofs.frame.reads_and_syncs_keep_what_stands.Goals as goal

pub returns : goal.returns
returns c = site_kept
