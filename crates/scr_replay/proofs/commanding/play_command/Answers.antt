use Rattle.scr_replay.proofs.commanding.play_command.Goals as goal

pub returns-in-Ok-tell-clause-replayed : goal.returns-in-Ok-tell-clause-replayed
returns-in-Ok-tell-clause-replayed g c = λ s next.
    record { events = c.in-Ok.closed.history.events; played = c.in-Ok.ensures.played s; printed = c.in-Ok-tell.ensures.told; timed = c.in-Ok.ensures.timed next; causes = c.in-Ok.ensures.causes }
