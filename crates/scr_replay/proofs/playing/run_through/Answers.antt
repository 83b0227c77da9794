use Rattle.std.proofs.Common.{◌∙◌, List, sym, subst, ap}
use Rattle.std.specs.Prelude.{IsTrue}
use Rattle.std.specs.List.{list_all}
use Rattle.ckpt_model.specs.Machine.{Setup}
use Rattle.ckpt_model.specs.declared.event.Event.{Event}
use Rattle.ckpt_model.specs.declared.history.History.{History}
use Rattle.site_core.specs.Holds.{Closes}
use Rattle.site_core.specs.Readings.{TellsReadings, is_inside}
use Rattle.site_core.proofs.Readings.{all_readings, all_inside}
use Rattle.site_core.proofs.Faults.{ended_causes}
use Rattle.node_device.specs.Rack.{states_of}
use Rattle.script_reader.specs.Values.{size_of}
use Rattle.scr_replay.proofs.Forms.{built_end}
use Rattle.scr_replay.proofs.Replayed.{run_played, same_setup}
use Rattle.scr_replay.proofs.playing.run_through.Goals as goal

pub returns-clause-played : goal.returns-clause-played
returns-clause-played g c =
    let state = g.D.Device.state in
    let reading = g.C.Clock.reading in
    let over = c.run_out-over.new.site in
    let history = c.close-history.result.history.events in
    run_played _ c.args.run.now (states_of state c.args.bay) (states_of state c.close-history.result.bay) (states_of state c.stop_devices.new.bay) over.core.places over.programs history
    (c.run_out-over.ensures.same.places ∙ c.in-Ok.ensures.places)
    (c.run_out-over.ensures.same.programs ∙ c.in-Ok.ensures.programs)
    (built_end (size_of c.args.shape) c.args.run.now c.requires.run)
    (λ tells first stands begins.
    subst (λ (s : Setup). Closes s (states_of state c.close-history.result.bay) first over.core.places over.programs history)
    (same_setup _ _ _ _ _ c.run_out-over.ensures.same.shape c.run_out-over.ensures.same.config c.in-Ok.ensures.setup)
    (c.close-history.ensures.closed first (c.in_default.ensures.kept first (c.in-Ok.ensures.follows first tells stands begins)) c.in_default.ensures.stopped))
    (subst (λ (events : List Event). IsTrue (list_all is_inside events)) (sym (ap (λ (h : History). h.events) c.close-history.ensures.history))
    (all_inside (reading c.args.clock.now) (reading c.run_out-over.new.clock) c.in-Ok.site.history.events over.history.events c.in-Ok.ensures.empty c.in_default.ensures.timed))
    c.stop_devices.ensures.crashes
    (λ tells why m safe. c.stop_devices.ensures.stands tells _ why m safe)

pub returns-clause-timed : goal.returns-clause-timed
returns-clause-timed g c =
    let reading = g.C.Clock.reading in
    subst (λ (events : List Event). TellsReadings (reading c.args.clock.now) (reading c.run_out-over.new.clock) events) (sym (ap (λ (h : History). h.events) c.close-history.ensures.history))
    (all_readings (reading c.args.clock.now) (reading c.run_out-over.new.clock) c.in-Ok.site.history.events c.run_out-over.new.site.history.events c.in-Ok.ensures.empty c.in_default.ensures.timed)

pub returns-clause-causes : goal.returns-clause-causes
returns-clause-causes g c =
    let state = g.D.Device.state in
    ended_causes state (states_of state c.args.bay) c.run_out-over.new.site c.close-history.result.bay c.stop_devices.new.bay c.close-history.result.history.events
    (c.in_default.ensures.accounts (states_of state c.args.bay) c.in-Ok.ensures.accounts)
    c.close-history.ensures.bay (ap (λ (h : History). h.events) c.close-history.ensures.history) c.stop_devices.ensures.crashes
