use Rattle.site_core.proofs.Readings.{times_then, no_times}
use Rattle.scr_replay.proofs.Steady.{same_then, same_now}
use Rattle.scr_replay.proofs.Goes.{goes_on, rests}
use Rattle.scr_replay.proofs.playing.take_rank_turns.Goals as goal

pub loop-rank-preserved : goal.loop-rank-preserved
loop-rank-preserved g c = record {
  kept = λ first follows. c.in_ok-take_rank_turn.ensures.kept first (c.loop-rank.invariant.kept first follows);
  same = same_then c.args.site.now c.loop-rank.site c.take_rank_turn.new.site c.loop-rank.invariant.same c.in_ok-take_rank_turn.ensures.same;
  goes = goes_on c.args.site.now c.loop-rank.site c.take_rank_turn.new.site c.loop-rank.invariant.goes c.in_ok-take_rank_turn.ensures.goes;
  timed = times_then (g.C.Clock.reading c.args.clock.now) (g.C.Clock.reading c.loop-rank.clock) (g.C.Clock.reading c.take_rank_turn.new.clock) _ _ _ c.loop-rank.invariant.timed c.in_ok-take_rank_turn.ensures.timed;
  accounts = λ base before. c.in_ok-take_rank_turn.ensures.accounts base (c.loop-rank.invariant.accounts base before);
}

pub loop-rank-init : goal.loop-rank-init
loop-rank-init g c = record {
  kept = λ first follows. follows;
  same = same_now c.args.site.now;
  goes = rests c.args.site.now;
  timed = no_times (g.C.Clock.reading c.args.clock.now) c.args.site.now.history.events;
  accounts = λ base before. before;
}
