use Rattle.std.proofs.Common.{◌≡◌, sym, ap, ◌∙◌, refl}
use Rattle.node_device.specs.Rack.{states_of}
use Rattle.site_calls.specs.Removals.{Leaving}
use Rattle.site_state.specs.declared.run_state.DropStep.TheVariants as drop
use Rattle.site_core.proofs.Closing.{over_core}
use Rattle.site_core.proofs.Removing.{file_dropped, files_dropped}
use Rattle.site_core.proofs.DroppedRounds.{ends_dropping}
use Rattle.site_calls.proofs.Telling.{on_ok3, tell_on}
use Rattle.site_calls.proofs.Sounds.{sound_of}
use Rattle.site_state.proofs.AheadCores.{removed_lower, cleared_lower}
use Rattle.site_core.proofs.AheadCores.{ends_lower}
use Rattle.site_state.specs.Waiting.{is_over}
use Rattle.site_core.proofs.Told.{behind, with_room}
use Rattle.site_core.proofs.Sparing.{spared_by}
use Rattle.site_state.specs.declared.run_state.RunState.{RunState}
use Rattle.site_core.proofs.site.Site.remove_file.Goals as goal

pub returns-in-Ok-true-clause-run : goal.returns-in-Ok-true-clause-run
returns-in-Ok-true-clause-run g c = λ tells first base f.
    let s = c.args.self.now in
    let state = g.D.Device.state in
    let bay = c.drop_file.new.bay in
    with_room c.reserve.ensures.events (files_dropped first s.core s.programs (states_of state s.bay) (states_of state bay) s.history.events c.args.node c.in-Some.place c.requires.stage (sym c.in-Some.ensures.place) f c.drop_file.new.removal c.drop_file.ensures.which c.drop_file.ensures.node c.in-Ok-true.field-0 c.in-Ok-true.ensures.dropped
    (sound_of state g.met.D.Device.sound s.bay) c.in-Ok-true.field-0-test (tell_on (states_of state s.bay) (states_of state bay) c.drop_file.ensures.tells tells) (sound_of state g.met.D.Device.sound bay))

pub returns-in-Ok-false-clause-run : goal.returns-in-Ok-false-clause-run
returns-in-Ok-false-clause-run g c = λ tells first base f.
    let s = c.args.self.now in
    let state = g.D.Device.state in
    with_room c.reserve.ensures.events (file_dropped first s.core s.programs (states_of state s.bay) (states_of state c.drop_file.new.bay) s.history.events c.args.node c.in-Some.place c.requires.stage (sym c.in-Some.ensures.place) f c.drop_file.new.removal c.drop_file.ensures.which c.drop_file.ensures.node c.in-Ok-false.field-0 c.in-Ok-false.ensures.dropped (sound_of state g.met.D.Device.sound s.bay))

pub returns-in-Err-clause-run : goal.returns-in-Err-clause-run
returns-in-Err-clause-run g c = on_ok3 c.stop_by_fault.result (λ e k t. ends_dropping g.D.Device.state c.args.self.now c.stop_by_fault.new.self c.in-Err.trouble (behind _ e c.reserve.ensures.events) (k ∙ as_before) c.stop_by_fault.ensures.fixed.programs drop.File c.args.node c.requires.stage t c.in-Some.place c.drop_file.new.bay c.stop_by_fault.ensures.bay c.in-Err.ensures.refused)
    c.stop_by_fault.ensures.events c.stop_by_fault.ensures.core c.stop_by_fault.ensures.fault where
      as_before : over_core (record c.args.self.now.core { removal = c.drop_file.new.removal }) ≡ over_core c.args.self.now.core
      as_before = ap (λ (r : Leaving). over_core (record c.args.self.now.core { removal = r })) c.in-Err.ensures.stays

pub returns-in-Ok-true-clause-lowers : goal.returns-in-Ok-true-clause-lowers
returns-in-Ok-true-clause-lowers g c =
    let s = c.args.self.now in
    cleared_lower s.core s.programs c.args.node c.drop_file.new.removal c.requires.stage

pub returns-in-Ok-false-clause-lowers : goal.returns-in-Ok-false-clause-lowers
returns-in-Ok-false-clause-lowers g c =
    let s = c.args.self.now in
    removed_lower s.core s.programs c.args.node c.drop_file.new.removal c.requires.stage (c.in-Ok-false.ensures.dropped.here.fewer c.in-Ok-false.field-0-test)

pub returns-in-Err-clause-lowers : goal.returns-in-Err-clause-lowers
returns-in-Err-clause-lowers g c =
    let s = c.args.self.now in
    ends_lower s c.stop_by_fault.new.self (record s.core { removal = c.drop_file.new.removal }) c.stop_by_fault.result (ap is_over c.requires.stage) refl refl c.stop_by_fault.ensures.fixed.programs c.stop_by_fault.ensures.moved c.stop_by_fault.ensures.core

pub returns-in-Err-clause-spared : goal.returns-in-Err-clause-spared
returns-in-Err-clause-spared g c = spared_by g.D.Device.state c.args.self.now _ c.stop_by_fault.new.self c.stop_by_fault.result c.in-Err.trouble c.stop_by_fault.ensures.refused c.stop_by_fault.ensures.no_fault (ap (λ (r : Leaving). let y : RunState = record c.args.self.now.core { removal = r } in y) c.in-Err.ensures.stays) refl c.reserve.ensures.events refl c.in-Err.ensures.spared
