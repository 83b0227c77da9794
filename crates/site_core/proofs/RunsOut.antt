-- There is no number left for a run.
use Rattle.std.proofs.Common.{◌≡◌, ℕ, Bool, true, false, List, [], ◌∷◌, ◌++◌, None, refl, sym, ap, ◌∙◌, subst}
use Rattle.std.specs.Prelude.{IsTrue, not}
use Rattle.std.specs.List.{list_all}
use Rattle.scr_base.specs.declared.content.Step.{Step}
use Rattle.node_device.specs.DeviceState.{DeviceState}
use Rattle.ckpt_model.specs.declared.event.Event.{Event}
use Rattle.ckpt_model.specs.declared.event.Event.TheVariants as event
use Rattle.ckpt_model.specs.declared.event.StopCause.TheVariants as cause
use Rattle.ckpt_model.specs.Legal.{begins_run, AreOfPrograms, is_stop}
use Rattle.ckpt_model.specs.Machine.{Machine, Setup, Stage as Place}
use Rattle.ckpt_model.specs.Stops.{may_stop, may_store, after_stop}
use Rattle.model_proper.specs.Fair.{IsFair}
use Rattle.site_state.specs.declared.run_state.RunState.{RunState}
use Rattle.site_state.specs.declared.run_state.RunStage.TheVariants as stage
use Rattle.site_state.specs.Shown.{setup_of}
use Rattle.site_core.specs.Stored.{cells_of, stored_run}
use Rattle.site_state.specs.Waiting.{is_over}
use Rattle.site_core.specs.Holds.{Leads, CanBegin}
use Rattle.site_core.proofs.Numbering.{begun_at, told_begun}
use Rattle.site_core.proofs.LeftStages.{remains, stage_left}
use Rattle.site_core.proofs.Closing.{IsLawful, over_core, closes, plain_choice, decides_nothing}
use Rattle.site_core.proofs.Resting.{quiet_begins}

-- the state after a stop that decides nothing
abbrev unnumbered : Machine → Machine
unnumbered m = record m { stage = Place.Between; open_dataset = None; fetching = None; flushing = None; index = []; halt = m.halt; mark = m.mark }

stop_is : (s : Setup) (m : Machine) (entries : List Bool) (took : Bool) → m.stage ≡ Place.Between → m.index ≡ [] → after_stop s m (plain_choice entries took) ≡ unnumbered m
stop_is s m entries took at none = rw (at, none) refl

no_number : (m : Machine) → m.stage ≡ Place.Between → m.run ≡ 4294967295 → IsTrue (may_store m true) → ⊥
no_number m at is may_be = absurd (let no : may_store m true ≡ false = rw (at, is) refl in cc (no, may_be))

may_run_out : (m : Machine) → m.stage ≡ Place.Between → m.run ≡ 4294967295 → may_stop m cause.Runs ≡ true
may_run_out m at is = rw (at, is) refl

-- a run can begin over the state too that nothing was decided for
can_begin : (s : Setup) (states : ℕ → DeviceState) (m : Machine) → CanBegin s states m → CanBegin s states (unnumbered m)
can_begin s states m h = record { single = h.single; sets = h.sets; quiet = h.quiet; store = h.store; between = refl; kept = h.kept; index = refl; halt = h.halt; mark_is = h.mark_is; unindexed = h.unindexed }

pub numbers_over : (first : Machine) (c : RunState) (programs : List (List Step)) (states : ℕ → DeviceState) (events events' : List Event) → IsLawful states → IsFair (setup_of c) first → c.stage ≡ stage.Begun → stored_run (cells_of states) ≡ 4294967295
    → events' ≡ events ++ event.Stop cause.Runs ∷ [] → Leads first c programs states events → Leads first (over_core c) programs states events'
numbers_over first c programs states events events' law fair at last more leads =
    let m = leads.state in
    let h = (begun_at c.stage c states m at leads.holds).begins in
    let none = told_begun c.stage c.places programs events at leads.told in
    let is : m.run ≡ 4294967295 = sym h.store.stored ∙ last in
    closes first c programs states events events' cause.Runs m law fair leads.run (may_run_out m h.between is) more
    (subst (λ (es : List Event). IsTrue (begins_run c.places (es ++ event.Stop cause.Runs ∷ [])) × AreOfPrograms programs (es ++ event.Stop cause.Runs ∷ [])) (sym none) (refl, (tt, tt)))
    (subst (λ (es : List Event). IsTrue (list_all (λ e. not (is_stop e)) es)) (sym none) refl)
    (λ good choice may_be after stop. subst (λ (x : Machine). CanBegin (setup_of c) after x)
    (sym (ap (after_stop (setup_of c) m) (decides_nothing (setup_of c) m cause.Runs choice refl (no_number m h.between is) may_be) ∙ stop_is (setup_of c) m choice.entries choice.took h.between h.index))
    (can_begin (setup_of c) after m (quiet_begins (setup_of c) states after m stop.crashes stop.tells h)))
    (remains c states m cause.Runs (stage_left c.stage c states m refl (ap is_over at) leads.holds))
