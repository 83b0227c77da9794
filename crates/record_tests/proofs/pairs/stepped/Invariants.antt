use Rattle.std.specs.Prelude.{codes}
use Rattle.gated_record.specs.PairStages.{IsStageOf}
use Rattle.record_tests.proofs.pairs.stepped.Given as goal

abbrev pub invariant-loop : goal.invariant-loop
invariant-loop g l = IsStageOf (codes "run") l.stage
