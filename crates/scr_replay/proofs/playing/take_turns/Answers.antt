use Rattle.std.proofs.Common.{arith}
use Rattle.site_core.proofs.Readings.{times_then}
use Rattle.scr_replay.proofs.Steady.{same_then}
use Rattle.scr_replay.proofs.Forms.{is_actor}
use Rattle.scr_replay.proofs.playing.take_turns.Goals as goal

pub loop-turn-preserved : goal.loop-turn-preserved
loop-turn-preserved g c = record {
  kept = λ first follows. c.in_ok-take_turn.ensures.kept first (c.loop-turn.invariant.kept first follows);
  same = same_then c.args.site.now c.loop-turn.site c.take_turn.new.site c.loop-turn.invariant.same c.in_ok-take_turn.ensures.same;
  timed = times_then (g.C.Clock.reading c.args.clock.now) (g.C.Clock.reading c.loop-turn.clock) (g.C.Clock.reading c.take_turn.new.clock) _ _ _ c.loop-turn.invariant.timed c.in_ok-take_turn.ensures.timed;
  accounts = λ base before. c.in_ok-take_turn.ensures.accounts base (c.loop-turn.invariant.accounts base before);
}

pub take_turn-requires : goal.take_turn-requires
take_turn-requires g c =
    is_actor c.args.ranks _ c.args.turn.actor c.requires.actor (omega (arith, c.requires.ranks, c.loop-turn.invariant.same.ranks))
