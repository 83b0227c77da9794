use Rattle.std.specs.Prelude.{codes}
use Rattle.gated_record.specs.PairSteps.{StepsPair}
use Rattle.std.proofs.Common.{arith}
use Rattle.node_device.proofs.Racks.{only_at}
use Rattle.site_calls.proofs.bay_calls.step_number.Goals as goal

pub returns-clause-steps : goal.returns-clause-steps
returns-clause-steps g c =
    only_at g.D.Device.state c.args.bay.now c.device.ensures.full 32 (omega arith) (StepsPair (codes "run") c.args.storing.now.want c.step.result c.args.storing.now.changes c.step.new.self.changes) c.device.result.now c.step.new.prefix c.device.ensures.value c.step.ensures.steps
