use Rattle.site_stands.proofs.Changes.Mended.{mends_stand, mended_stand, mended_event}
use Rattle.site_stands.proofs.events.a_mended_dataset_stands.Goals as goal

pub returns-clause-mending : goal.returns-clause-mending
returns-clause-mending c = mends_stand

pub returns-clause-mended : goal.returns-clause-mended
returns-clause-mended c = mended_stand

pub returns-clause-event : goal.returns-clause-event
returns-clause-event c = mended_event
