use Rattle.record_tests.proofs.pairs.settle.Goals as goal

pub loop-over-init : goal.loop-over-init
loop-over-init g c = c.requires.stage

pub loop-over-preserved : goal.loop-over-preserved
loop-over-preserved g c = c.in_ok-over.ensures.stage
