use Rattle.std.proofs.lemmas.Result.{on_ok_weaker}
use Rattle.site_core.proofs.Readings.{times_then}
use Rattle.scr_replay.proofs.Goes.{goes_on}
use Rattle.scr_replay.proofs.playing.take_rank_turn.Goals as goal

pub returns-clause-kept : goal.returns-clause-kept
returns-clause-kept g c = on_ok_weaker c.take_plain_turn.result (λ last first follows. last first (c.in_ok-tell_time.ensures.kept first follows)) c.take_plain_turn.ensures.kept

pub returns-clause-goes : goal.returns-clause-goes
returns-clause-goes g c = on_ok_weaker c.take_plain_turn.result (λ last. goes_on c.args.site.now c.tell_time.new.site c.take_plain_turn.new.site c.in_ok-tell_time.ensures.goes last) c.take_plain_turn.ensures.goes

pub returns-clause-timed : goal.returns-clause-timed
returns-clause-timed g c =
    let new = g.C.Clock.reading c.tell_time.new.clock in
    on_ok_weaker c.take_plain_turn.result (λ last. times_then (g.C.Clock.reading c.args.clock.now) new new _ _ _ c.in_ok-tell_time.ensures.timed (last new)) c.take_plain_turn.ensures.timed

pub returns-clause-accounts : goal.returns-clause-accounts
returns-clause-accounts g c = on_ok_weaker c.take_plain_turn.result (λ last base before. last base (c.in_ok-tell_time.ensures.accounts base before)) c.take_plain_turn.ensures.accounts
