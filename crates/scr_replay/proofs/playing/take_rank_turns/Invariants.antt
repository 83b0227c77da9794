use Rattle.site_core.specs.Follows.{KeepsRun, IsSameRun}
use Rattle.site_core.specs.Readings.{TellsTimes}
use Rattle.site_core.specs.Faults.{KeepsAccount}
use Rattle.scr_replay.specs.Goes.{GoesDown}
use Rattle.scr_replay.proofs.playing.take_rank_turns.Given as goal

-- the turns so far kept the run, and told what was read of the clock
abbrev pub invariant-loop-rank : goal.invariant-loop-rank
invariant-loop-rank g l =
    record {
      kept : KeepsRun g.D.Device.state l.fn.site l.site;
      same : IsSameRun g.D.Device.state l.fn.site l.site;
      goes : GoesDown l.fn.site l.site;
      timed : TellsTimes (g.C.Clock.reading l.fn.clock) (g.C.Clock.reading l.clock) l.fn.site.history.events l.site.history.events;
      accounts : KeepsAccount g.D.Device.state l.fn.site l.site;
    }
