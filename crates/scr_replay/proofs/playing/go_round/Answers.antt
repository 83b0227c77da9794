use Rattle.std.proofs.lemmas.Result.{on_ok_weaker}
use Rattle.site_core.proofs.Readings.{times_then}
use Rattle.scr_replay.proofs.Goes.{goes_on}
use Rattle.scr_replay.proofs.playing.go_round.Goals as goal

pub returns-clause-kept : goal.returns-clause-kept
returns-clause-kept g c =
    on_ok_weaker c.take_plain_turn-4.result
    (λ last first follows. last first (c.in_ok-take_plain_turn-3.ensures.kept first (c.in_ok-take_plain_turn-2.ensures.kept first (c.in_ok-take_rank_turns.ensures.kept first (c.in_ok-take_plain_turn.ensures.kept first follows)))))
    c.take_plain_turn-4.ensures.kept

pub returns-clause-timed : goal.returns-clause-timed
returns-clause-timed g c =
    let old = g.C.Clock.reading c.args.clock.now in
    let new = g.C.Clock.reading c.take_rank_turns.new.clock in
    on_ok_weaker c.take_plain_turn-4.result
    (λ last. times_then old new new _ _ _ (times_then old old new _ _ _ (c.in_ok-take_plain_turn.ensures.timed old) c.in_ok-take_rank_turns.ensures.timed)
    (times_then new new new _ _ _ (c.in_ok-take_plain_turn-2.ensures.timed new) (times_then new new new _ _ _ (c.in_ok-take_plain_turn-3.ensures.timed new) (last new))))
    c.take_plain_turn-4.ensures.timed

pub returns-clause-goes : goal.returns-clause-goes
returns-clause-goes g c =
    on_ok_weaker c.take_plain_turn-4.result
    (λ last. goes_on c.args.site.now c.take_rank_turns.new.site c.take_plain_turn-4.new.site
    (goes_on c.args.site.now c.take_plain_turn.new.site c.take_rank_turns.new.site c.in_ok-take_plain_turn.ensures.goes c.in_ok-take_rank_turns.ensures.goes)
    (goes_on c.take_rank_turns.new.site c.take_plain_turn-2.new.site c.take_plain_turn-4.new.site c.in_ok-take_plain_turn-2.ensures.goes
    (goes_on c.take_plain_turn-2.new.site c.take_plain_turn-3.new.site c.take_plain_turn-4.new.site c.in_ok-take_plain_turn-3.ensures.goes last)))
    c.take_plain_turn-4.ensures.goes

pub returns-clause-accounts : goal.returns-clause-accounts
returns-clause-accounts g c =
    on_ok_weaker c.take_plain_turn-4.result
    (λ last base before. last base (c.in_ok-take_plain_turn-3.ensures.accounts base (c.in_ok-take_plain_turn-2.ensures.accounts base (c.in_ok-take_rank_turns.ensures.accounts base (c.in_ok-take_plain_turn.ensures.accounts base before)))))
    c.take_plain_turn-4.ensures.accounts
