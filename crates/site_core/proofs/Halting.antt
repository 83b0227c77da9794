-- A run that is ended from outside.
use Rattle.std.proofs.Common.{◌≡◌, ◌↔◌, ℕ, Bool, true, false, List, [], ◌∷◌, ◌++◌, refl, sym, ap, subst}
use Rattle.std.specs.Prelude.{IsTrue, not, ◌||◌}
use Rattle.std.specs.List.{list_all}
use Rattle.scr_base.specs.declared.content.Step.{Step}
use Rattle.node_device.specs.DeviceState.{DeviceState}
use Rattle.ckpt_model.specs.declared.event.Event.{Event}
use Rattle.ckpt_model.specs.declared.event.Event.TheVariants as event
use Rattle.ckpt_model.specs.declared.event.StopCause.TheVariants as cause
use Rattle.ckpt_model.specs.Legal.{begins_run, AreOfPrograms, is_stop}
use Rattle.ckpt_model.specs.Machine.{Machine}
use Rattle.ckpt_model.specs.Questions.{is_running}
use Rattle.ckpt_model.specs.Steps.{is_between, is_begun}
use Rattle.ckpt_model.specs.Stops.{may_stop}
use Rattle.site_state.specs.declared.run_state.RunState.{RunState}
use Rattle.site_state.specs.declared.run_state.RunStage.{RunStage}
use Rattle.site_state.specs.declared.run_state.RunStage.TheVariants as stage
use Rattle.model_proper.specs.Fair.{IsFair}
use Rattle.site_state.specs.Shown.{setup_of}
use Rattle.site_stands.specs.Site.{SiteStands}
use Rattle.site_stands.proofs.Safety.Made.{made_safe}
use Rattle.model_proper.proofs.Steps.{run_fair}
use Rattle.site_core.specs.Holds.{HoldsAt, ToldAt, IsSoFar, Leads, IsUnderWay}
use Rattle.site_state.specs.Waiting.{is_over}
use Rattle.site_core.proofs.Closing.{IsLawful, closes, remains_stand}
use Rattle.site_core.proofs.Told.{tells_end}
use Rattle.site_core.proofs.LeftStages.{Remains, stage_left, remains, nothing_made}

one_of : (a b c : Bool) → a ≡ true → a || b || c ≡ true
one_of true b c e = refl
one_of false b c e = absurd (cc e)

second_of : (a b c : Bool) → b ≡ true → a || b || c ≡ true
second_of true b c e = refl
second_of false true c e = refl
second_of false false c e = absurd (cc e)

third_of : (a b c : Bool) → c ≡ true → a || b || c ≡ true
third_of true b c e = refl
third_of false true c e = refl
third_of false false c e = e

between_may : (m : Machine) → is_between m.stage ≡ true → may_stop m cause.Script ≡ true
between_may m at = one_of (is_between m.stage) (is_begun m.stage) (is_running m.stage) at

begun_may : (m : Machine) → is_begun m.stage ≡ true → may_stop m cause.Script ≡ true
begun_may m at = second_of (is_between m.stage) (is_begun m.stage) (is_running m.stage) at

running_may : (m : Machine) → is_running m.stage ≡ true → may_stop m cause.Script ≡ true
running_may m at = third_of (is_between m.stage) (is_begun m.stage) (is_running m.stage) at

-- the script may stop a run that isn't over
may_halt : (s : RunStage) (c : RunState) (states : ℕ → DeviceState) (m : Machine) → is_over s ≡ false → HoldsAt s c states m → may_stop m cause.Script ≡ true
may_halt stage.Begun c states m on h = between_may m (ap is_between h.begins.between)
may_halt stage.Storing c states m on h = between_may m (ap is_between h.between)
may_halt stage.Looking c states m on h = begun_may m (ap (λ (x : Machine). is_begun x.stage) h.is)
may_halt stage.Mending c states m on h = running_may m (ap (λ (x : Machine). is_running x.stage) h.is)
may_halt stage.Serving c states m on h = running_may m (ap (λ (x : Machine). is_running x.stage) h.is)
may_halt (stage.Saving w n) c states m on h = running_may m (ap (λ (x : Machine). is_running x.stage) h.is)
may_halt (stage.Dropping d n) c states m on h = running_may m (ap (λ (x : Machine). is_running x.stage) h.leaves.is)
may_halt stage.Dropped c states m on h = running_may m (ap (λ (x : Machine). is_running x.stage) h.is)
may_halt stage.Over c states m on h = absurd (cc on)

module _ (places : List ℕ) (programs : List (List Step)) (events : List Event) (e : Event) where
  abbrev IsEnding : Type 0
  IsEnding = (IsTrue (begins_run places (events ++ e ∷ [])) × AreOfPrograms programs (events ++ e ∷ [])) × IsTrue (list_all (λ f. not (is_stop f)) events)

first_end : (places : List ℕ) (programs : List (List Step)) (events : List Event) → events ≡ [] → IsEnding places programs events (event.Stop cause.Script)
first_end places programs events none = subst (λ (es : List Event). IsEnding places programs es (event.Stop cause.Script)) (sym none) ((refl, (tt, tt)), refl)

later_end : (places : List ℕ) (programs : List (List Step)) (events : List Event) → IsSoFar places programs events → IsEnding places programs events (event.Stop cause.Script)
later_end places programs events so_far = (tells_end places programs events (event.Stop cause.Script) so_far tt, so_far.goes_on)

ending : (s : RunStage) (places : List ℕ) (programs : List (List Step)) (events : List Event) → is_over s ≡ false → ToldAt s places programs events → IsEnding places programs events (event.Stop cause.Script)
ending stage.Begun places programs events on told = first_end places programs events told
ending stage.Storing places programs events on told = first_end places programs events told
ending stage.Looking places programs events on told = later_end places programs events told
ending stage.Mending places programs events on told = later_end places programs events told
ending stage.Serving places programs events on told = later_end places programs events told
ending (stage.Saving w n) places programs events on told = later_end places programs events told
ending (stage.Dropping d n) places programs events on told = later_end places programs events told
ending stage.Dropped places programs events on told = later_end places programs events told
ending stage.Over places programs events on told = absurd (cc on)

pub halts : (first : Machine) (c : RunState) (programs : List (List Step)) (states : ℕ → DeviceState) (events events' : List Event)
    → IsLawful states → IsFair (setup_of c) first → is_over c.stage ≡ false → events' ≡ events ++ event.Stop cause.Script ∷ [] → Leads first c programs states events → Leads first (record c { stage = stage.Over }) programs states events'
halts first c programs states events events' law fair on more leads =
    let end = ending c.stage c.places programs events on leads.told in
    closes first c programs states events events' cause.Script leads.state law fair leads.run (may_halt c.stage c states leads.state on leads.holds) more end.0 end.1 (λ good. absurd (cc good)) (remains c states leads.state cause.Script (stage_left c.stage c states leads.state refl on leads.holds))

-- where it stands until then
pub under_way : (first : Machine) (c : RunState) (programs : List (List Step)) (states : ℕ → DeviceState) (events : List Event) → IsLawful states → IsFair (setup_of c) first → is_over c.stage ≡ false → Leads first c programs states events → IsUnderWay (setup_of c) states first events
under_way first c programs states events law fair on leads =
    let m = leads.state in
    let l = stage_left c.stage c states m refl on leads.holds in
    let r : Remains c states m cause.Script = record { made = []; may = nothing_made (setup_of c) m cause.Script; same_run = refl; leaves = l.leaves; prefix = l.prefix; later = l.later; plain = l.plain; unindexed = l.unindexed } in
    let stands : SiteStands (setup_of c) states m = remains_stand c states m cause.Script r law (run_fair (setup_of c) first events m leads.run fair) in
    record {
      state = m;
      run = leads.run;
      stands = stands;
      safe = made_safe (setup_of c) states m cause.Script [] (may_halt c.stage c states m on leads.holds) (nothing_made (setup_of c) m cause.Script) stands;
    }

-- a test that tells whether it is over, and says no
pub not_over : (says over : Bool) → (says ≡ true) ↔ (over ≡ true) → says ≡ false → over ≡ false
not_over says true tells silent = absurd (cc (tells.1 refl, silent))
not_over says false tells silent = refl

pub not_stopped : (s : RunStage) → (is_over s ≡ true → ⊥) → is_over s ≡ false
not_stopped s on = pick (is_over s) refl where
  pick : (b : Bool) → is_over s ≡ b → is_over s ≡ false
  pick true e = absurd (on e)
  pick false e = e
