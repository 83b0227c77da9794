use Rattle.scr_replay.proofs.playing.play.Goals as goal

pub returns-in-Ok-tell-clause-replayed : goal.returns-in-Ok-tell-clause-replayed
returns-in-Ok-tell-clause-replayed g c =
    record { events = c.in-Ok.closed.history.events; played = c.in-Ok.ensures.played; printed = c.in-Ok-tell.ensures.told; timed = c.in-Ok.ensures.timed; causes = c.in-Ok.ensures.causes }
