use Rattle.gated_record.specs.Pair.{pair_body}
use Rattle.gated_record.proofs.Records.{unwritten}
use Rattle.gated_record.proofs.making.fill.Goals as goal

pub returns-in_err-body : goal.returns-in_err-body
returns-in_err-body g c = unwritten c.args.name.now (pair_body c.args.want.now) (g.D.Device.state c.args.dev.now) c.from_residual.result c.from_residual.ensures.1
