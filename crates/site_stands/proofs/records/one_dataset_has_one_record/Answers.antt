use Rattle.site_stands.proofs.Bodies.{body_one}
use Rattle.site_stands.proofs.records.one_dataset_has_one_record.Goals as goal

pub returns : goal.returns
returns c = body_one
