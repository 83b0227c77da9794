use Rattle.record_tests.proofs.pairs.stepped.Goals as goal

pub loop-preserved : goal.loop-preserved
loop-preserved g c = c.in_ok-pair_step.ensures.stage
