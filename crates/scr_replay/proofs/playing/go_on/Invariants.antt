use Rattle.std.proofs.Common.{◌+◌}
use Rattle.std.specs.Prelude.{if◌then◌else◌}
use Rattle.site_state.specs.Ahead.{ahead}
use Rattle.site_core.specs.Follows.{KeepsRun, IsSameRun}
use Rattle.site_core.specs.Readings.{TellsTimes}
use Rattle.site_core.specs.Faults.{KeepsAccount}
use Rattle.scr_replay.proofs.playing.go_on.Given as goal

-- the rounds so far kept the run, and told what was read of the clock
abbrev pub invariant-loop-goes : goal.invariant-loop-goes
invariant-loop-goes g l =
    record {
      kept : KeepsRun g.D.Device.state l.fn.site l.site;
      same : IsSameRun g.D.Device.state l.fn.site l.site;
      timed : TellsTimes (g.C.Clock.reading l.fn.clock) (g.C.Clock.reading l.clock) l.fn.site.history.events l.site.history.events;
      accounts : KeepsAccount g.D.Device.state l.fn.site l.site;
    }

-- each round in which somebody moved leaves less ahead
abbrev pub decreases-loop-goes : goal.decreases-loop-goes
decreases-loop-goes g l = if l.goes then ahead l.site.core l.site.programs + 1 else 0
