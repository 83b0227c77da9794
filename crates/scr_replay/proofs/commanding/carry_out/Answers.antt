use Rattle.std.proofs.Common.{arith, List, [], ◌∷◌, refl, sym, ap, ◌∙◌, subst, Ok}
use Rattle.node_device.specs.Rack.{states_of}
use Rattle.ckpt_model.specs.declared.event.Event.{Event}
use Rattle.ckpt_model.specs.Track.{Track}
use Rattle.site_core.specs.Readings.{TellsReadings}
use Rattle.admin.specs.Commands.{word_of}
use Rattle.admin.specs.declared.answer.Answer.{Answer}
use Rattle.site_core.proofs.Turns.{lawful}
use Rattle.script_reader.specs.declared.script.Item.TheVariants as item
use Rattle.scr_replay.specs.Items.{legal_item}
use Rattle.scr_replay.specs.Runs.{IsPlayed}
use Rattle.scr_replay.proofs.Commanded.{halt_command, done_played, refused_played, done_told, refused_told, if_ok2}
use Rattle.std.proofs.Common.{Result}
use Rattle.scr_base.specs.declared.memory.Memory.{Memory}
use Rattle.node_device.specs.Rack.{OnlyAt}
use Rattle.admin.specs.Halting.{SetsHalt}
use Rattle.admin.specs.declared.answer.Answer.TheVariants as admin
use Rattle.site_core.specs.Faults.{TellsCauses}
use Rattle.site_calls.proofs.Sounds.{sound_of}
use Rattle.scr_replay.proofs.CommandFaults.{command_causes, refused_causes}
use Rattle.scr_replay.proofs.commanding.carry_out.Goals as goal

pub run_command-requires : goal.run_command-requires
run_command-requires g c = record { halt_command = halt_command c.args.command.now c.requires }

pub returns-in-Done-clause-played : goal.returns-in-Done-clause-played
returns-in-Done-clause-played g c = λ s.
    let state = g.D.Device.state in
    let old = states_of state c.args.bay in
    let new = states_of state c.run_command.new.bay in
    subst (λ (events : List Event). IsPlayed s (legal_item (item.Admin c.args.command.now) ∷ []) old new events)
    (sym (done_told c.new-history.result.events c.reserve.new.self.events c.push.new.self.events c.in-Ok-word_of.word (word_of c.args.command.now) c.in-Ok-run_command.answer c.told_answer.result (ap (λ (t : Track). t.events) c.new-history.ensures) c.in-Ok.ensures.events c.in-Ok-push.ensures.events c.in-Ok-word_of.ensures c.told_answer.ensures c.in-Done.is))
    (done_played s c.args.command.now old new c.requires (lawful state g.met.D.Device.sound c.run_command.new.bay)
    (λ tells m begins. c.run_command.ensures.halt.stands begins.quiet (tells 32 (omega arith)) (c.in-Ok-run_command.is ∙ ap (λ (a : Answer). Ok a) c.in-Done.is)))

pub returns-in_default-answer-clause-played : goal.returns-in_default-answer-clause-played
returns-in_default-answer-clause-played g c =
    if_ok2 c.stop_behind.result (λ closed told stopped s.
    let state = g.D.Device.state in
    let old = states_of state c.args.bay in
    let left = states_of state closed.bay in
    let a = c.in-Ok-run_command.answer in
    subst (λ (events : List Event). IsPlayed s (legal_item (item.Admin c.args.command.now) ∷ []) old left events)
    (sym (refused_told c.new-history.result.events c.reserve.new.self.events c.push.new.self.events closed.history.events c.in-Ok-word_of.word (word_of c.args.command.now) a c.told_answer.result (ap (λ (t : Track). t.events) c.new-history.ensures) c.in-Ok.ensures.events c.in-Ok-push.ensures.events told c.in-Ok-word_of.ensures c.told_answer.ensures))
    (refused_played s c.args.command.now a old left c.requires c.in_default-answer.not-Done (lawful state g.met.D.Device.sound closed.bay)
    (λ tells m begins between. c.run_command.ensures.halt.stops begins.quiet left stopped between)))
    c.stop_behind.ensures.told c.stop_behind.ensures.stopped

pub returns-in_default-answer-clause-timed : goal.returns-in_default-answer-clause-timed
returns-in_default-answer-clause-timed g c =
    if_ok2 c.stop_behind.result (λ closed told stopped next.
    subst (λ (events : List Event). TellsReadings next next events)
    (sym (refused_told c.new-history.result.events c.reserve.new.self.events c.push.new.self.events closed.history.events c.in-Ok-word_of.word (word_of c.args.command.now) c.in-Ok-run_command.answer c.told_answer.result (ap (λ (t : Track). t.events) c.new-history.ensures) c.in-Ok.ensures.events c.in-Ok-push.ensures.events told c.in-Ok-word_of.ensures c.told_answer.ensures))
    (record { readings = tt; next = refl }))
    c.stop_behind.ensures.told c.stop_behind.ensures.stopped

pub returns-in-Done-clause-causes : goal.returns-in-Done-clause-causes
returns-in-Done-clause-causes g c =
    let state = g.D.Device.state in
    let old = states_of state c.args.bay in
    let new = states_of state c.run_command.new.bay in
    let word = word_of c.args.command.now in
    subst (λ (events : List Event). TellsCauses old new events)
    (sym (done_told c.new-history.result.events c.reserve.new.self.events c.push.new.self.events c.in-Ok-word_of.word word c.in-Ok-run_command.answer c.told_answer.result (ap (λ (t : Track). t.events) c.new-history.ensures) c.in-Ok.ensures.events c.in-Ok-push.ensures.events c.in-Ok-word_of.ensures c.told_answer.ensures c.in-Done.is))
    (command_causes word old new (sound_of state g.met.D.Device.sound c.args.bay 32).fits word admin.Done
    (subst (λ (r : Result Answer Memory). OnlyAt 32 (SetsHalt word r) old new) (c.in-Ok-run_command.is ∙ ap (λ (a : Answer). Ok a) c.in-Done.is) c.run_command.ensures.halt.prefix))

pub returns-in_default-answer-clause-causes : goal.returns-in_default-answer-clause-causes
returns-in_default-answer-clause-causes g c =
    if_ok2 c.stop_behind.result (λ closed told stopped.
    let state = g.D.Device.state in
    let old = states_of state c.args.bay in
    let new = states_of state c.run_command.new.bay in
    let left = states_of state closed.bay in
    let word = word_of c.args.command.now in
    let a = c.in-Ok-run_command.answer in
    subst (λ (events : List Event). TellsCauses old left events)
    (sym (refused_told c.new-history.result.events c.reserve.new.self.events c.push.new.self.events closed.history.events c.in-Ok-word_of.word word a c.told_answer.result (ap (λ (t : Track). t.events) c.new-history.ensures) c.in-Ok.ensures.events c.in-Ok-push.ensures.events told c.in-Ok-word_of.ensures c.told_answer.ensures))
    (refused_causes word old new (sound_of state g.met.D.Device.sound c.args.bay 32).fits word a left
    (subst (λ (r : Result Answer Memory). OnlyAt 32 (SetsHalt word r) old new) c.in-Ok-run_command.is c.run_command.ensures.halt.prefix) stopped))
    c.stop_behind.ensures.told c.stop_behind.ensures.stopped
