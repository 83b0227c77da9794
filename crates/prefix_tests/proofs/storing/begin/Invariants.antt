use Rattle.std.proofs.Common.{codes}
use Rattle.gated_record.specs.PairStages.{IsStageOf}
use Rattle.prefix_tests.proofs.storing.begin.Given as goal

-- it is a stage of the pair
abbrev pub invariant-loop : goal.invariant-loop
invariant-loop l = IsStageOf (codes "cur") l.stage
