use Rattle.std.proofs.Common.{length, ◌-◌, ◌≡◌, ◌≤◌, take}
use Rattle.scr_base.specs.Streams.{Joins}
use Rattle.scr_replay.proofs.output.put_all.Given as goal

-- the front that is done went out, and no fault came
abbrev pub invariant-loop-done : goal.invariant-loop-done
invariant-loop-done g l =
    record {
      within : l.done ≤ length l.bytes;
      out : Joins (g.K.Sink.held l.fn.sink) (g.K.Sink.held l.sink) (take l.done l.bytes);
      calm : g.K.Sink.fault_count l.sink ≡ g.K.Sink.fault_count l.fn.sink;
    }

abbrev pub decreases-loop-done : goal.decreases-loop-done
decreases-loop-done g l = length l.bytes - l.done
