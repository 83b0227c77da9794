use Rattle.std.proofs.Common.{◌∙◌, ℕ, List, Option, inr, subst}
use Rattle.node_device.specs.Rack.{states_of}
use Rattle.scr_replay.specs.Items.{setup_of, legal_items, CutsShort}
use Rattle.scr_replay.specs.Runs.{IsReplayed}
use Rattle.scr_replay.proofs.replay.replay.Goals as goal

pub returns-in-Ok-clause-done : goal.returns-in-Ok-clause-done
returns-in-Ok-clause-done g c zero =
    let state = g.D.Device.state in
    let script = c.in-Ok.script in
    let run = c.in-Ok.ensures.run in
    record {
      script = script;
      read = run.read;
      built = run.built;
      spent = run.spent;
      quiet_source = run.quiet_source;
      quiet_sink = c.play_all.ensures.quiet zero ∙ run.quiet_sink;
      replayed =
          subst (λ (held : Option (List ℕ)). IsReplayed (setup_of script) (legal_items script.items) (states_of state c.args.bay) (states_of state c.play_all.result.bay) held (g.K.Sink.held c.play_all.new.sink) (g.C.Clock.reading c.args.clock.now) (g.C.Clock.reading c.play_all.new.clock)) run.unprinted
          (c.play_all.ensures.done zero);
    }

pub returns-in-Ok-clause-front : goal.returns-in-Ok-clause-front
returns-in-Ok-clause-front g c high =
    let state = g.D.Device.state in
    let script = c.in-Ok.script in
    let run = c.in-Ok.ensures.run in
    inr (record {
      script = script;
      read = run.read;
      built = run.built;
      cut =
          subst (λ (held : Option (List ℕ)). CutsShort (setup_of script) script.items (states_of state c.args.bay) held (g.K.Sink.held c.play_all.new.sink)) run.unprinted
          (c.play_all.ensures.cut high);
    })
