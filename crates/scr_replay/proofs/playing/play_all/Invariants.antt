use Rattle.std.proofs.Common.{◌≡◌, take}
use Rattle.node_device.specs.Rack.{states_of}
use Rattle.scr_replay.specs.Items.{setup_of, legal_items}
use Rattle.scr_replay.specs.Runs.{IsReplayed}
use Rattle.scr_replay.proofs.playing.play_all.Given as goal

-- the items so far were replayed
abbrev pub invariant-loop-item : goal.invariant-loop-item
invariant-loop-item g l =
    record {
      replayed : IsReplayed (setup_of l.script) (legal_items (take l.item-index l.script.items)) (states_of g.D.Device.state l.fn.bay) (states_of g.D.Device.state l.bay) (g.K.Sink.held l.fn.sink) (g.K.Sink.held l.sink) (g.C.Clock.reading l.fn.clock) (g.C.Clock.reading l.clock);
      quiet : g.K.Sink.fault_count l.sink ≡ g.K.Sink.fault_count l.fn.sink;
    }
