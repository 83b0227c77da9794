use Rattle.site_core.proofs.Readings.{times_then}
use Rattle.scr_replay.proofs.Steady.{same_then}
use Rattle.scr_replay.specs.Forms.{has_turn}
use Rattle.scr_replay.proofs.Forms.{all_get}
use Rattle.scr_replay.proofs.playing.take_lines.Goals as goal

pub loop-turn-preserved : goal.loop-turn-preserved
loop-turn-preserved g c = record {
  kept = λ first follows. c.in_ok-take_turns.ensures.kept first (c.loop-turn.invariant.kept first follows);
  same = same_then c.args.site.now c.loop-turn.site c.take_turns.new.site c.loop-turn.invariant.same c.in_ok-take_turns.ensures.same;
  timed = times_then (g.C.Clock.reading c.args.clock.now) (g.C.Clock.reading c.loop-turn.clock) (g.C.Clock.reading c.take_turns.new.clock) _ _ _ c.loop-turn.invariant.timed c.in_ok-take_turns.ensures.timed;
  accounts = λ base before. c.in_ok-take_turns.ensures.accounts base (c.loop-turn.invariant.accounts base before);
}

pub take_turns-requires-clause-actor : goal.take_turns-requires-clause-actor
take_turns-requires-clause-actor g c =
    all_get (has_turn c.args.ranks) c.args.turns.now c.loop-turn.turn-index _ c.requires.actors c.loop-turn-test.true
