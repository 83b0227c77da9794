-- A history that is one event longer, and what holds at a stage that is known.
use Rattle.std.proofs.Common.{◌≡◌, ◌≤◌, ◌<◌, ℕ, Bool, true, false, List, [], ◌∷◌, ◌++◌, length, refl, sym, ap, ◌∙◌, subst, Option, Some}
use Rattle.std.specs.Prelude.{IsTrue, not, ◌&&◌}
use Rattle.std.specs.List.{list_all}
use Rattle.scr_base.specs.declared.content.Step.{Step}
use Rattle.scr_base.specs.declared.answers.Phase.{Phase}
use Rattle.scr_base.specs.declared.answers.Phase.TheVariants as phase
use Rattle.scr_base.specs.declared.shape.DataId.{DataId}
use Rattle.node_device.specs.DeviceState.{DeviceState}
use Rattle.ckpt_model.specs.declared.event.Event.{Event}
use Rattle.ckpt_model.specs.declared.event.Event.TheVariants as event
use Rattle.ckpt_model.specs.Machine.{Machine}
use Rattle.ckpt_model.specs.Legal.{AreOfPrograms, IsOfProgram, begins_run, is_stop}
use Rattle.ckpt_model.specs.Runs.{StepsTo, RunsTo}
use Rattle.ckpt_model.proofs.RunLemmas.{run_on}
use Rattle.round_core.specs.declared.seat.Seat.{Seat}
use Rattle.site_state.specs.declared.cache.Manifest.{Manifest}
use Rattle.site_state.specs.declared.run_state.RunStage.{RunStage}
use Rattle.site_state.specs.declared.run_state.RunStage.TheVariants as stage
use Rattle.site_state.specs.declared.run_state.RunState.{RunState}
use Rattle.site_state.specs.Shown.{running, setup_of, served}
use Rattle.site_core.specs.Stored.{Cells, cells_of, contents_of, FilesHold, IsWell}
use Rattle.site_core.specs.Holds.{IsUp, HoldsAt, IsSoFar, ToldAt, ClosesAt, Leads, WorkIs, NoRecordYet, IsPending}

-- recovery has looked, and the run isn't over
abbrev pub is_up : RunStage → Bool
is_up stage.Begun = false
is_up stage.Storing = false
is_up stage.Looking = false
is_up stage.Over = false
is_up (stage.Dropping d n) = false
is_up stage.Dropped = false
is_up _ = true

pub up_at : (s : RunStage) (c : RunState) (states : ℕ → DeviceState) (m : Machine) → is_up s ≡ true → HoldsAt s c states m → IsUp c states m
up_at stage.Begun c states m e h = absurd (cc)
up_at stage.Storing c states m e h = absurd (cc)
up_at stage.Looking c states m e h = absurd (cc)
up_at stage.Over c states m e h = absurd (cc)
up_at (stage.Dropping d n) c states m e h = absurd (cc)
up_at stage.Dropped c states m e h = absurd (cc)
up_at stage.Mending c states m e h = h
up_at stage.Serving c states m e h = h
up_at (stage.Saving w n) c states m e h = h

pub at_up : (s : RunStage) (c : RunState) (states : ℕ → DeviceState) (m : Machine) → is_up s ≡ true → IsUp c states m → HoldsAt s c states m
at_up stage.Begun c states m e h = absurd (cc)
at_up stage.Storing c states m e h = absurd (cc)
at_up stage.Looking c states m e h = absurd (cc)
at_up stage.Over c states m e h = absurd (cc)
at_up (stage.Dropping d n) c states m e h = absurd (cc)
at_up stage.Dropped c states m e h = absurd (cc)
at_up stage.Mending c states m e h = h
at_up stage.Serving c states m e h = h
at_up (stage.Saving w n) c states m e h = h

pub told_up : (s : RunStage) (places : List ℕ) (programs : List (List Step)) (events : List Event) → is_up s ≡ true → ToldAt s places programs events → IsSoFar places programs events
told_up stage.Begun places programs events e h = absurd (cc)
told_up stage.Storing places programs events e h = absurd (cc)
told_up stage.Looking places programs events e h = absurd (cc)
told_up stage.Over places programs events e h = absurd (cc)
told_up (stage.Dropping d n) places programs events e h = absurd (cc)
told_up stage.Dropped places programs events e h = absurd (cc)
told_up stage.Mending places programs events e h = h
told_up stage.Serving places programs events e h = h
told_up (stage.Saving w n) places programs events e h = h

pub up_told : (s : RunStage) (places : List ℕ) (programs : List (List Step)) (events : List Event) → is_up s ≡ true → IsSoFar places programs events → ToldAt s places programs events
up_told stage.Begun places programs events e h = absurd (cc)
up_told stage.Storing places programs events e h = absurd (cc)
up_told stage.Looking places programs events e h = absurd (cc)
up_told stage.Over places programs events e h = absurd (cc)
up_told (stage.Dropping d n) places programs events e h = absurd (cc)
up_told stage.Dropped places programs events e h = absurd (cc)
up_told stage.Mending places programs events e h = h
up_told stage.Serving places programs events e h = h
up_told (stage.Saving w n) places programs events e h = h

-- ## One event more

begins_front : (places : List ℕ) (f : Event) (events : List Event) (e : Event) → IsTrue (begins_run places (f ∷ events)) → IsTrue (begins_run places (f ∷ (events ++ e ∷ [])))
begins_front places (event.Run run at) events e h = h
begins_front places (event.Stop why) events e h = h
begins_front places _ events e h = h

begins_still : (places : List ℕ) (events : List Event) (e : Event) → IsTrue (begins_run places events) → IsTrue (begins_run places (events ++ e ∷ []))
begins_still places [] e h = absurd (cc)
begins_still places (f ∷ events) e h = begins_front places f events e h

of_programs_more : (programs : List (List Step)) (events : List Event) (e : Event) → AreOfPrograms programs events → IsOfProgram programs e → AreOfPrograms programs (events ++ e ∷ [])
of_programs_more programs [] e h one = (one, tt)
of_programs_more programs (f ∷ events) e h one = (h.0, of_programs_more programs events e h.1 one)

first_of_all : (test : Event → Bool) (f : Event) (events : List Event) → IsTrue (list_all test (f ∷ events)) → IsTrue (test f && list_all test events)
first_of_all test f events h = h

pub and_true : (a b : Bool) → IsTrue (a && b) → IsTrue a × IsTrue b
and_true true b h = (refl, h)
and_true false b h = absurd (cc)

both : (a b : Bool) → IsTrue a → IsTrue b → IsTrue (a && b)
both true b p q = q
both false b p q = absurd (cc p)

pub all_more_of : (test : Event → Bool) (events : List Event) (e : Event) → IsTrue (list_all test events) → IsTrue (test e) → IsTrue (list_all test (events ++ e ∷ []))
all_more_of test [] e h one = both (test e) true one refl
all_more_of test (f ∷ events) e h one =
    let parts = and_true (test f) (list_all test events) (first_of_all test f events h) in
    both (test f) _ parts.0 (all_more_of test events e parts.1 one)

pub tells_more : (places : List ℕ) (programs : List (List Step)) (events events' : List Event) (e : Event) → events' ≡ events ++ e ∷ [] → IsSoFar places programs events → IsOfProgram programs e → is_stop e ≡ false → IsSoFar places programs events'
tells_more places programs events events' e is so_far one goes = subst (λ (es : List Event). IsSoFar places programs es) (sym is) (record {
  begin = begins_still places events e so_far.begin;
  steps = of_programs_more programs events e so_far.steps one;
  goes_on = all_more_of (λ x. not (is_stop x)) events e so_far.goes_on (ap not goes);
})

-- the event may be the run's last
pub tells_end : (places : List ℕ) (programs : List (List Step)) (events : List Event) (e : Event) → IsSoFar places programs events → IsOfProgram programs e
    → IsTrue (begins_run places (events ++ e ∷ [])) × AreOfPrograms programs (events ++ e ∷ [])
tells_end places programs events e so_far one = (begins_still places events e so_far.begin, of_programs_more programs events e so_far.steps one)

-- ## A run that is up

-- what is known of a run that is up
pub record IsLed (first : Machine) (c : RunState) (programs : List (List Step)) (states : ℕ → DeviceState) (events : List Event) : Type 0 where
  pub run : RunsTo (setup_of c) first events (running (contents_of (cells_of states) c) c)
  pub so_far : IsSoFar c.places programs events
  pub well : IsWell c
  pub files : FilesHold c (cells_of states)
  pub quiet : (p : ℕ) (q : List ℕ) → p ≤ 32 → (p < c.shape.nodes → IsPending c.stage c q → ⊥) → Rattle.node_device.specs.File.IsAtRest ((states p).file q)
  pub unrecorded : NoRecordYet c.stage c (cells_of states)
  pub working : WorkIs c.stage c states

pub led : (first : Machine) (c : RunState) (programs : List (List Step)) (states : ℕ → DeviceState) (events : List Event) → is_up c.stage ≡ true → Leads first c programs states events → IsLed first c programs states events
led first c programs states events up leads =
    let h = up_at c.stage c states leads.state up leads.holds in
    record {
      run = subst (λ (m : Machine). RunsTo (setup_of c) first events m) h.is leads.run;
      so_far = told_up c.stage c.places programs events up leads.told;
      well = h.well;
      files = h.files;
      quiet = h.quiet;
      unrecorded = h.unrecorded;
      working = h.working;
    }

up_closes : (s : RunStage) (setup : Rattle.ckpt_model.specs.Machine.Setup) (first : Machine) (places : List ℕ) (programs : List (List Step)) (states : ℕ → DeviceState) (events : List Event) → is_up s ≡ true → ClosesAt s setup first places programs states events
up_closes stage.Begun setup first places programs states events e = tt
up_closes stage.Storing setup first places programs states events e = tt
up_closes stage.Looking setup first places programs states events e = tt
up_closes stage.Over setup first places programs states events e = absurd (cc e)
up_closes (stage.Dropping d n) setup first places programs states events e = tt
up_closes stage.Dropped setup first places programs states events e = tt
up_closes stage.Mending setup first places programs states events e = tt
up_closes stage.Serving setup first places programs states events e = tt
up_closes (stage.Saving w n) setup first places programs states events e = tt

pub leads_up : (first : Machine) (c : RunState) (programs : List (List Step)) (states : ℕ → DeviceState) (events : List Event) → is_up c.stage ≡ true → IsLed first c programs states events → Leads first c programs states events
leads_up first c programs states events up h = record {
  state = running (contents_of (cells_of states) c) c;
  run = h.run;
  holds = at_up c.stage c states (running (contents_of (cells_of states) c) c) up (record { is = refl; well = h.well; files = h.files; quiet = h.quiet; unrecorded = h.unrecorded; working = h.working });
  told = up_told c.stage c.places programs events up h.so_far;
  closes = up_closes c.stage (setup_of c) first c.places programs states events up;
}

-- what was pushed behind what was there
pub appended : (a b c : List Event) (e e' : Event) → a ≡ b ++ e ∷ [] → b ≡ c → e ≡ e' → a ≡ c ++ e' ∷ []
appended a b c e e' p q r = p ∙ ap (λ x. x ++ e ∷ []) q ∙ ap (λ x. c ++ x ∷ []) r

-- room was made before
pub behind : {a b c : List Event} (e : Event) → a ≡ b ++ e ∷ [] → b ≡ c → a ≡ c ++ e ∷ []
behind e p q = p ∙ ap (λ (x : List Event). x ++ e ∷ []) q

pub with_room : {first : Machine} {c : RunState} {programs : List (List Step)} {states : ℕ → DeviceState} {events events' : List Event} → events' ≡ events → Leads first c programs states events → Leads first c programs states events'
with_room {first = first} {c = c} {programs = programs} {states = states} same l = subst (λ (es : List Event). Leads first c programs states es) (sym same) l

-- ## Serving, with no file changed

-- the run serves on: its ranks, its phase, its offer, its count of questions and its reading of the clock may be others
abbrev pub turned : RunState → Phase → Option DataId → ℕ → Option ℕ → List Seat → RunState
turned c p o needs reading ranks = record c { phase = p; offer = o; needs = needs; reading = reading; ranks = ranks }

turned_well : (c : RunState) (p : Phase) (o : Option DataId) (needs : ℕ) (reading : Option ℕ) (ranks : List Seat) → length ranks ≡ length c.ranks → ((m : Manifest) → c.opened ≡ Some m → p ≡ phase.Output) → IsWell c → IsWell (turned c p o needs reading ranks)
turned_well c p o needs reading ranks same output w = record { single = w.single; output = output; places = w.places; rise = w.rise; below = w.below; sets = w.sets; opened_run = w.opened_run; opened_below = w.opened_below; opened_last = w.opened_last; ranks = same ∙ w.ranks }

turned_files : (c : RunState) (p : Phase) (o : Option DataId) (needs : ℕ) (reading : Option ℕ) (ranks : List Seat) (cells : Cells) → FilesHold c cells → FilesHold (turned c p o needs reading ranks) cells
turned_files c p o needs reading ranks cells f = record { stored = f.stored; halted = f.halted; unindexed = f.unindexed; files = f.files; records = f.records; others = f.others; future = f.future; fresh = f.fresh }

pub turns : (first : Machine) (c : RunState) (programs : List (List Step)) (states : ℕ → DeviceState) (events events' : List Event) (e : Event) (p : Phase) (o : Option DataId) (needs : ℕ) (reading : Option ℕ) (ranks : List Seat)
    → c.stage ≡ stage.Serving → length ranks ≡ length c.ranks → ((m : Manifest) → c.opened ≡ Some m → p ≡ phase.Output) → IsLed first c programs states events
    → StepsTo (setup_of c) (running (contents_of (cells_of states) c) c) e (running (contents_of (cells_of states) c) (turned c p o needs reading ranks))
    → IsOfProgram programs e → is_stop e ≡ false → events' ≡ events ++ e ∷ [] → Leads first (turned c p o needs reading ranks) programs states events'
turns first c programs states events events' e p o needs reading ranks at same output h step one goes more =
    let d = turned c p o needs reading ranks in
    let serving : RunState = record d { stage = stage.Serving } in
    let bytes = contents_of (cells_of states) c in
    let work : WorkIs stage.Serving c states = subst (λ (s : RunStage). WorkIs s c states) at h.working in
    let none : NoRecordYet stage.Serving c (cells_of states) = subst (λ (s : RunStage). NoRecordYet s c (cells_of states)) at h.unrecorded in
    let quiet = subst (λ (s : RunStage). (p : ℕ) (q : List ℕ) → p ≤ 32 → (p < c.shape.nodes → IsPending s c q → ⊥) → Rattle.node_device.specs.File.IsAtRest ((states p).file q)) at h.quiet in
    let l : IsLed first d programs states events' = record {
      run = run_on (setup_of c) first (running bytes c) (running bytes d) events events' e more h.run step;
      so_far = tells_more c.places programs events events' e more h.so_far one goes;
      well = turned_well c p o needs reading ranks same output h.well;
      files = turned_files c p o needs reading ranks (cells_of states) h.files;
      quiet = subst (λ (s : RunStage). (p : ℕ) (q : List ℕ) → p ≤ 32 → (p < c.shape.nodes → IsPending s d q → ⊥) → Rattle.node_device.specs.File.IsAtRest ((states p).file q)) (sym at) quiet;
      unrecorded = subst (λ (s : RunStage). NoRecordYet s d (cells_of states)) (sym at) none;
      working = subst (λ (s : RunStage). WorkIs s d states) (sym at) work;
    } in
    leads_up first d programs states events' (ap is_up at) l

pub serves : (first : Machine) (c : RunState) (programs : List (List Step)) (states : ℕ → DeviceState) (events events' : List Event) (e : Event) (p : Phase) (o : Option DataId) (ranks : List Seat)
    → c.stage ≡ stage.Serving → length ranks ≡ length c.ranks → ((m : Manifest) → c.opened ≡ Some m → p ≡ phase.Output) → IsLed first c programs states events
    → StepsTo (setup_of c) (running (contents_of (cells_of states) c) c) e (running (contents_of (cells_of states) c) (served c p o ranks))
    → IsOfProgram programs e → is_stop e ≡ false → events' ≡ events ++ e ∷ [] → Leads first (served c p o ranks) programs states events'
serves first c programs states events events' e p o ranks = turns first c programs states events events' e p o c.needs c.reading ranks
