use Rattle.std.proofs.lemmas.Result.{on_ok_weaker}
use Rattle.site_core.proofs.Readings.{times_then}
use Rattle.scr_replay.proofs.playing.run_out.Goals as goal

pub returns-clause-kept : goal.returns-clause-kept
returns-clause-kept g c =
    on_ok_weaker c.go_on.result (λ last first follows. last first (c.in_ok-take_lines.ensures.kept first follows)) c.go_on.ensures.kept

pub returns-clause-timed : goal.returns-clause-timed
returns-clause-timed g c =
    on_ok_weaker c.go_on.result (λ last. times_then (g.C.Clock.reading c.args.clock.now) (g.C.Clock.reading c.take_lines.new.clock) (g.C.Clock.reading c.go_on.new.clock) _ _ _ c.in_ok-take_lines.ensures.timed last) c.go_on.ensures.timed

pub returns-clause-accounts : goal.returns-clause-accounts
returns-clause-accounts g c = on_ok_weaker c.go_on.result (λ last base before. last base (c.in_ok-take_lines.ensures.accounts base before)) c.go_on.ensures.accounts
