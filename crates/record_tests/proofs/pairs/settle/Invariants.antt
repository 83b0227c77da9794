use Rattle.std.proofs.Common.{◌+◌}
use Rattle.std.specs.Prelude.{codes, if◌then◌else◌}
use Rattle.scr_base.specs.Stages.{left}
use Rattle.gated_record.specs.PairStages.{IsStageOf}
use Rattle.record_tests.proofs.pairs.settle.Given as goal

abbrev pub invariant-loop-over : goal.invariant-loop-over
invariant-loop-over g l = IsStageOf (codes "run") l.stage

abbrev pub decreases-loop-over : goal.decreases-loop-over
decreases-loop-over g l = if l.over then 0 else left l.stage + 1
