use Rattle.site_core.proofs.Readings.{times_then}
use Rattle.scr_replay.proofs.Steady.{same_then}
use Rattle.scr_replay.proofs.playing.go_on.Goals as goal

pub loop-goes-preserved : goal.loop-goes-preserved
loop-goes-preserved g c = record {
  kept = λ first follows. c.in_ok-go_round.ensures.kept first (c.loop-goes.invariant.kept first follows);
  same = same_then c.args.site.now c.loop-goes.site c.go_round.new.site c.loop-goes.invariant.same c.in_ok-go_round.ensures.same;
  timed = times_then (g.C.Clock.reading c.args.clock.now) (g.C.Clock.reading c.loop-goes.clock) (g.C.Clock.reading c.go_round.new.clock) _ _ _ c.loop-goes.invariant.timed c.in_ok-go_round.ensures.timed;
  accounts = λ base before. c.in_ok-go_round.ensures.accounts base (c.loop-goes.invariant.accounts base before);
}

pub returns-then-stopped-clause-timed : goal.returns-then-stopped-clause-timed
returns-then-stopped-clause-timed g c =
    times_then (g.C.Clock.reading c.args.clock.now) (g.C.Clock.reading c.loop-goes.clock) (g.C.Clock.reading c.go_round.new.clock) _ _ _ c.loop-goes.invariant.timed c.in_ok-go_round.ensures.timed

pub returns-then-stopped-clause-accounts : goal.returns-then-stopped-clause-accounts
returns-then-stopped-clause-accounts g c = λ base before. c.in_ok-go_round.ensures.accounts base (c.loop-goes.invariant.accounts base before)
