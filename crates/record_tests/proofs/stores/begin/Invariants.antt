use Rattle.std.specs.Prelude.{codes}
use Rattle.gated_record.specs.PairStages.{IsStageOf}
use Rattle.record_tests.proofs.stores.begin.Given as goal

abbrev pub invariant-loop : goal.invariant-loop
invariant-loop g l = IsStageOf (codes "halt") l.stage
