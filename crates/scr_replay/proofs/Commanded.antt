-- A command on the conditions on which the job is to stop is a step of the machine, and the devices stand behind it.
use Rattle.std.proofs.Common.{◌≡◌, inl, inr, ℕ, Bool, true, false, List, [], ◌∷◌, ◌++◌, Option, refl, sym, ap, ◌∙◌, subst, Result, Ok, Err, IfOk}
use Rattle.std.specs.List.{list_all}
use Rattle.scr_base.specs.Halt.{Halt, halt_after}
use Rattle.scr_base.specs.declared.content.HaltWord.{HaltWord}
use Rattle.node_device.specs.File.{MayLeave}
use Rattle.node_device.specs.DeviceState.{DeviceState}
use Rattle.admin.specs.Causes.{wanted}
use Rattle.admin.specs.Commands.{IsHaltCommand, word_of}
use Rattle.admin.specs.Halting.{IsOldOrWanted}
use Rattle.admin.specs.Running.{StandsWith}
use Rattle.admin.specs.declared.answer.Answer.{Answer}
use Rattle.admin.specs.declared.answer.Answer.TheVariants as admin
use Rattle.admin.specs.declared.command.Command.{Command}
use Rattle.admin.specs.declared.command.Command.TheVariants as command
use Rattle.ckpt_model.specs.Legal.{Item, Gives}
use Rattle.ckpt_model.specs.Legal.Item.{SetHalt}
use Rattle.ckpt_model.specs.Machine.{Machine, Setup, Stage, Pending}
use Rattle.ckpt_model.specs.Moves.{after}
use Rattle.ckpt_model.specs.Proper.{IsProper}
use Rattle.ckpt_model.specs.Runs.{StepsTo, RunsTo}
use Rattle.ckpt_model.specs.Steps.{is_between}
use Rattle.ckpt_model.specs.Stops.{after_stop, index_left}
use Rattle.ckpt_model.specs.declared.event.Event.{Event}
use Rattle.ckpt_model.specs.declared.event.Event.TheVariants as event
use Rattle.ckpt_model.specs.declared.event.StopCause.TheVariants as cause
use Rattle.ckpt_model.specs.declared.event.CommandAnswer.{CommandAnswer}
use Rattle.ckpt_model.specs.declared.event.CommandAnswer.TheVariants as told
use Rattle.model_proper.proofs.Fair.Passes.{between_fair}
use Rattle.model_proper.proofs.Steps.{run_fair}
use Rattle.site_stands.specs.Site.{Stands}
use Rattle.site_calls.specs.Calls.{Tells}
use Rattle.site_core.specs.Holds.{CanBegin}
use Rattle.site_core.proofs.HaltCommands.{halt_begins}
use Rattle.site_core.proofs.Stands.Standing.{begins_stand}
use Rattle.script_reader.specs.declared.script.Item.TheVariants as item
use Rattle.scr_replay.specs.Commands.{told_answer}
use Rattle.scr_replay.specs.Forms.{is_halt_command, is_single}
use Rattle.scr_replay.specs.Items.{legal_item}
use Rattle.scr_replay.specs.Runs.{goes_well, Plays, IsPlayed}
use Rattle.scr_replay.proofs.Forms.{single_fits}

pub halt_command : (c : Command) → is_halt_command c ≡ true → IsHaltCommand c
halt_command (command.HaltSet word) h = tt
halt_command command.HaltClear h = tt
halt_command command.IndexList h = absurd (cc h)
halt_command (command.IndexDrop id) h = absurd (cc h)
halt_command (command.IndexCurrent id) h = absurd (cc h)

-- it sets one condition, or unsets all
item_is : (c : Command) → is_halt_command c ≡ true → SetHalt (word_of c) ≡ legal_item (item.Admin c)
item_is (command.HaltSet word) h = refl
item_is command.HaltClear h = refl
item_is command.IndexList h = absurd (cc h)
item_is (command.IndexDrop id) h = absurd (cc h)
item_is (command.IndexCurrent id) h = absurd (cc h)

-- the state behind a command that was done
abbrev done_state : Machine → Option HaltWord → Machine
done_state m word = record m { halt = halt_after m.halt word }

-- the state behind one that was refused, where it took effect or not
abbrev refused_state : Setup → Machine → Option HaltWord → CommandAnswer → Bool → Machine
refused_state s m word a took = after_stop s (after s m (event.HaltSet word a)) (record { made = []; entries = []; took = took; stored = false })

module _ (s : Setup) (word : Option HaltWord) (old new : ℕ → DeviceState) (first : Machine) (begins : CanBegin s old first) where
  wanted_is : wanted word (old 32) ≡ halt_after first.halt word
  wanted_is = ap (λ (h : Halt). halt_after h word) (sym begins.halt)

  done_begins : StandsWith (λ halt. halt ≡ wanted word (old 32)) old new → CanBegin s new (done_state first word)
  done_begins w = halt_begins s old new first (done_state first word) w.reads w.quiet refl refl begins.between begins.index begins.mark_is (sym (w.halt ∙ wanted_is)) begins

  refused_begins : (a : CommandAnswer) (took : Bool) → after s first (event.HaltSet word a) ≡ record first { stage = Stage.CutShort (Pending.HaltOf (halt_after first.halt word)) }
      → (refused_state s first word a took).halt ≡ Rattle.halt_file.specs.Stores.halt_now (new 32) → StandsWith (IsOldOrWanted word (old 32)) old new → CanBegin s new (refused_state s first word a took)
  refused_begins a took cut halt w =
      halt_begins s old new first (refused_state s first word a took) w.reads w.quiet
      (ap (λ (m : Machine). m.run) cut) (ap (λ (m : Machine). m.kept) cut) refl
      (ap (λ (m : Machine). (after_stop s m (record { made = []; entries = []; took = took; stored = false })).index) cut ∙ ap (index_left (Pending.HaltOf (halt_after first.halt word)) []) begins.index)
      (ap (λ (m : Machine). (after_stop s m (record { made = []; entries = []; took = took; stored = false })).mark) cut ∙ begins.mark_is)
      halt begins

-- what reads give may be left
abbrev IsLawful : (ℕ → DeviceState) → Type 0
IsLawful states = (p : ℕ) (q : List ℕ) → MayLeave ((states p).file q) ((states p).file q).now

-- A command's events are steps of the machine to a state over which a run can begin: the devices stand for it.
plays_one : (s : Setup) (new : ℕ → DeviceState) (first end : Machine) (events : List Event) → IsLawful new → IsProper s first → is_single s.config.scheme ≡ true → is_between first.stage ≡ true
    → RunsTo s first events end → CanBegin s new end → (next : Machine) × RunsTo s first events next × Stands s new next × (list_all goes_well events ≡ true → CanBegin s new next × Plays s [] new next [] new)
plays_one s new first end events law proper single between runs begins =
    let fair = run_fair s first events end runs (between_fair s first between proper (single_fits s.config.scheme s.config.size s.shape.nodes single)) in
    (end, runs, begins_stand s new end law begins fair.proper, λ well. (begins, (refl, refl)))

-- the command was done
pub done_played : (s : Setup) (c : Command) (old new : ℕ → DeviceState) → is_halt_command c ≡ true → IsLawful new
    → (Tells old → (m : Machine) → CanBegin s old m → StandsWith (λ halt. halt ≡ wanted (word_of c) (old 32)) old new)
    → IsPlayed s (legal_item (item.Admin c) ∷ []) old new (event.HaltSet (word_of c) told.Done ∷ [])
done_played s c old new is law runs = λ tells first stands begins.
    let word = word_of c in
    let events = event.HaltSet word told.Done ∷ [] in (
      events,
      [],
      new,
      refl,
      subst (λ (i : Item). Gives i events) (item_is c is) (told.Done, refl),
      λ between. plays_one s new first (done_state first word) events law stands.shows.proper begins.single (ap is_between begins.between)
          (done_state first word, (ap is_between begins.between, refl), refl) (done_begins s word old new first begins (runs tells first begins)),
    )

-- what a refused command is: a step of the machine that leaves it cut short
record IsRefusedStep (s : Setup) (word : Option HaltWord) (a : CommandAnswer) : Type 0 where
  pub cut : (m : Machine) → after s m (event.HaltSet word a) ≡ record m { stage = Stage.CutShort (Pending.HaltOf (halt_after m.halt word)) }
  pub may : (m : Machine) → is_between m.stage ≡ true → Rattle.ckpt_model.specs.Moves.may s m (event.HaltSet word a) ≡ true
  pub gives : Gives (SetHalt word) (event.HaltSet word a ∷ event.Stop cause.Command ∷ [])

refused_step : (s : Setup) (word : Option HaltWord) (a : Answer) → (a ≡ admin.Done → ⊥) → IsRefusedStep s word (told_answer a)
refused_step s word admin.Done other = absurd (other refl)
refused_step s word (admin.Device count) other = record { cut = λ m. refl; may = λ m e. e; gives = (told.Device count, refl) }
refused_step s word (admin.Full used capacity) other = record { cut = λ m. refl; may = λ m e. e; gives = (told.Full used capacity, refl) }

-- the stop behind it
stops_behind : (s : Setup) (m : Machine) (p : Pending) (took : Bool) → m.stage ≡ Stage.CutShort p → StepsTo s m (event.Stop cause.Command) (after_stop s m (record { made = []; entries = []; took = took; stored = false }))
stops_behind s m p took at = (record { made = []; entries = []; took = took; stored = false }, rw at refl, refl)

-- it took effect, or not
took_effect : (s : Setup) (word : Option HaltWord) (old new : ℕ → DeviceState) (first : Machine) (a : CommandAnswer) → CanBegin s old first → IsRefusedStep s word a → StandsWith (IsOldOrWanted word (old 32)) old new
    → (took : Bool) × ((refused_state s first word a took).halt ≡ Rattle.halt_file.specs.Stores.halt_now (new 32))
took_effect s word old new first a begins step w = elim w.halt [
  | inl before ↦ (false, ap (λ (m : Machine). (after_stop s m (record { made = []; entries = []; took = false; stored = false })).halt) (step.cut first) ∙ begins.halt ∙ sym before)
  | inr now ↦ (true, ap (λ (m : Machine). (after_stop s m (record { made = []; entries = []; took = true; stored = false })).halt) (step.cut first) ∙ sym (now ∙ wanted_is s word old new first begins))
]

-- the command was refused, and all devices were stopped
pub refused_played : (s : Setup) (c : Command) (a : Answer) (old new : ℕ → DeviceState) → is_halt_command c ≡ true → (a ≡ admin.Done → ⊥) → IsLawful new
    → (Tells old → (m : Machine) → CanBegin s old m → Tells new → StandsWith (IsOldOrWanted (word_of c) (old 32)) old new)
    → IsPlayed s (legal_item (item.Admin c) ∷ []) old new (event.HaltSet (word_of c) (told_answer a) ∷ event.Stop cause.Command ∷ [])
refused_played s c a old new is other law runs = λ tells first stands begins.
    let word = word_of c in
    let b = told_answer a in
    let step = refused_step s word a other in
    let m = after s first (event.HaltSet word b) in
    let events = event.HaltSet word b ∷ event.Stop cause.Command ∷ [] in (
      events,
      [],
      new,
      refl,
      subst (λ (i : Item). Gives i events) (item_is c is) step.gives,
      λ between.
          let w = runs tells first begins between in
          let t = took_effect s word old new first b begins step w in
          let end = refused_state s first word b t.0 in
          plays_one s new first end events law stands.shows.proper begins.single (ap is_between begins.between)
          (m, (step.may first (ap is_between begins.between), refl), (end, stops_behind s m (Pending.HaltOf (halt_after first.halt word)) t.0 (ap (λ (x : Machine). x.stage) (step.cut first)), refl))
          (refused_begins s word old new first begins b t.0 (step.cut first) t.1 w),
    )

-- ## What is told

pub done_told : (none room events : List Event) (w word : Option HaltWord) (a : Answer) (b : CommandAnswer) → none ≡ [] → room ≡ none → events ≡ room ++ event.HaltSet w b ∷ [] → w ≡ word → b ≡ told_answer a → a ≡ admin.Done → events ≡ event.HaltSet word told.Done ∷ []
done_told none room events w word a b empty same is words answers done =
    is ∙ ap (λ (es : List Event). es ++ event.HaltSet w b ∷ []) (same ∙ empty) ∙ ap (λ (x : Option HaltWord). event.HaltSet x b ∷ []) words ∙ ap (λ (x : CommandAnswer). event.HaltSet word x ∷ []) (answers ∙ ap told_answer done)

pub refused_told : (none room one events : List Event) (w word : Option HaltWord) (a : Answer) (b : CommandAnswer) → none ≡ [] → room ≡ none → one ≡ room ++ event.HaltSet w b ∷ [] → events ≡ one ++ event.Stop cause.Command ∷ [] → w ≡ word → b ≡ told_answer a
    → events ≡ event.HaltSet word (told_answer a) ∷ event.Stop cause.Command ∷ []
refused_told none room one events w word a b empty same first is words answers =
    is ∙ ap (λ (es : List Event). es ++ event.Stop cause.Command ∷ [])
    (first ∙ ap (λ (es : List Event). es ++ event.HaltSet w b ∷ []) (same ∙ empty) ∙ ap (λ (x : Option HaltWord). event.HaltSet x b ∷ []) words ∙ ap (λ (x : CommandAnswer). event.HaltSet word x ∷ []) answers)

-- what follows from two things that hold of a success
pub if_ok2 : {T E : Type 0} (r : Result T E) {P Q R : T → Type 0} → ((v : T) → P v → Q v → R v) → IfOk r P → IfOk r Q → IfOk r R
if_ok2 (Ok v) f p q = f v p q
if_ok2 (Err e) f p q = tt
