use Rattle.prefix_index.specs.Drops.{IsDropStageOf}
use Rattle.prefix_tests.proofs.dropping.begin.Given as goal

-- it is a stage of a drop
abbrev pub invariant-loop : goal.invariant-loop
invariant-loop l = IsDropStageOf l.stage
