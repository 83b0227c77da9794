-- How a run is closed, whatever brought its end.
use Rattle.std.proofs.Common.{◌≡◌, ℕ, Bool, true, false, List, [], ◌∷◌, ◌++◌, refl, sym, ap, ap₂, ◌∙◌, subst}
use Rattle.std.specs.Prelude.{IsTrue, not, ◌&&◌, fold, if◌then◌else◌, ◌+◌}
use Rattle.std.specs.List.{list_all}
use Rattle.scr_base.specs.declared.content.Step.{Step}
use Rattle.node_device.specs.File.{MayLeave}
use Rattle.node_device.specs.DeviceState.{DeviceState}
use Rattle.ckpt_model.specs.declared.event.Event.{Event}
use Rattle.ckpt_model.specs.declared.event.Event.TheVariants as event
use Rattle.ckpt_model.specs.declared.event.StopCause.{StopCause}
use Rattle.ckpt_model.specs.declared.event.StopCause.TheVariants as cause
use Rattle.ckpt_model.specs.Legal.{begins_run, AreOfPrograms, is_stop}
use Rattle.ckpt_model.specs.Machine.{Machine, Setup}
use Rattle.ckpt_model.specs.Moves.{may, after}
use Rattle.ckpt_model.specs.Runs.{RunsTo, StepsTo}
use Rattle.ckpt_model.specs.Stops.{Choice, may_stop, may_make, may_store, may_choose, after_stop, pending_of, is_first_change}
use Rattle.ckpt_model.proofs.RunLemmas.{run_on}
use Rattle.model_proper.specs.Fair.{IsFair}
use Rattle.model_proper.proofs.Stops.{Makes, made_fair}
use Rattle.model_proper.proofs.Steps.{run_fair}
use Rattle.site_stands.specs.Site.{SiteStands, NodesStand}
use Rattle.site_stands.proofs.Safety.Made.{IsAlike, made_first, all_alike, made_safe}
use Rattle.site_state.specs.declared.run_state.RunState.{RunState}
use Rattle.site_state.specs.declared.run_state.RunStage.{RunStage}
use Rattle.site_state.specs.declared.run_state.RunStage.TheVariants as stage
use Rattle.site_state.specs.Shown.{setup_of}
use Rattle.site_state.specs.Waiting.{is_over}
use Rattle.site_core.specs.Left.{LeavesKept, LeavesPrefix, NoLater}
use Rattle.site_core.specs.Holds.{Leads, LetsBegin, Closes, ClosesAt, goes_well}
use Rattle.site_state.proofs.Gates.{both}
use Rattle.site_core.proofs.LeftStages.{Remains, nothing_made}
use Rattle.site_core.proofs.Stands.Cache.{cache_stands}
use Rattle.site_core.proofs.Stands.Prefix.{prefix_holds}

-- what reads give may be left
abbrev pub IsLawful : (ℕ → DeviceState) → Type 0
IsLawful states = (p : ℕ) (q : List ℕ) → MayLeave ((states p).file q) ((states p).file q).now

pub front : (a b : Bool) → IsTrue (a && b) → IsTrue a
front true b h = refl
front false b h = absurd (cc h)

pub behind : (a b : Bool) → IsTrue (a && b) → IsTrue b
behind true b h = h
behind false b h = absurd (cc h)

-- a state is fair with what a refused call may have made
makes_of : (s : Setup) (m : Machine) (why : StopCause) (made : List Event) → IsTrue (may_make s m why made) → Makes s m made
makes_of s m why [] may_be = tt
makes_of s m (cause.Device node count) (e ∷ es) may_be =
    let rest = may_make s (after s m e) (cause.Device node count) es in
    let now = front (is_first_change e && may s m e) rest may_be in
    (front (is_first_change e) (may s m e) now, behind (is_first_change e) (may s m e) now, makes_of s (after s m e) (cause.Device node count) es (behind (is_first_change e && may s m e) rest may_be))
makes_of s m cause.Ended (e ∷ es) may_be = absurd (cc may_be)
makes_of s m cause.Script (e ∷ es) may_be = absurd (cc may_be)
makes_of s m cause.Runs (e ∷ es) may_be = absurd (cc may_be)
makes_of s m (cause.Full node used capacity) (e ∷ es) may_be = absurd (cc may_be)
makes_of s m cause.Command (e ∷ es) may_be = absurd (cc may_be)

module _ (c : RunState) (states : ℕ → DeviceState) (m : Machine) (why : StopCause) (r : Remains c states m why) where
  abbrev s : Setup
  s = setup_of c

  abbrev then_is : Machine
  then_is = fold (after s) m r.made

  alike : IsAlike m then_is
  alike = all_alike s m r.made (made_first s m why r.made r.may)

  nodes : IsLawful states → NodesStand s states then_is
  nodes law = subst (λ (places : List ℕ). LeavesKept s places states then_is → NodesStand s states then_is) (sym r.leaves.places_are)
      (λ left. cache_stands s states then_is left law (λ i x at. (left.of_site i x at).single) (subst (λ (run : ℕ). NoLater states run) (sym r.same_run) r.later)) r.leaves

  prefix_left : LeavesPrefix (states 32) then_is
  prefix_left left out =
      let p = r.prefix left out in
      record {
        stored = p.stored;
        may = stores m then_is p.stored alike.stage alike.run p.may;
        run = p.run ∙ ap (λ (k : ℕ). if p.stored then k + 1 else k) (sym alike.run);
        halt = p.halt ∙ sym alike.halt;
      }
    where
      stores : (x y : Machine) (stored : Bool) → y.stage ≡ x.stage → y.run ≡ x.run → IsTrue (may_store x stored) → IsTrue (may_store y stored)
      stores x y stored at same h = rw (at, same) h

  -- What remains is what the devices hold for the state, with what a refused call may have made.
  pub remains_stand : IsLawful states → IsFair s m → SiteStands s states then_is
  remains_stand law fair = record {
    proper = (made_fair s m r.made (makes_of s m why r.made r.may) fair).proper;
    nodes = nodes law;
    prefix = prefix_holds s (states 32) then_is (law 32) prefix_left (ap pending_of alike.stage ∙ r.plain.pending) r.leaves.index (alike.mark ∙ r.plain.mark) r.unindexed.entries r.unindexed.unmarked;
  }

abbrev no_choice : Choice
no_choice = record { made = []; entries = []; took = false; stored = false }

chosen : (s : Setup) (m : Machine) (why : StopCause) → IsTrue (may_stop m why) → StepsTo s m (event.Stop why) (after_stop s m no_choice)
chosen s m why stop = (no_choice, both _ _ (both _ _ stop (nothing_made s m why)) refl, refl)

-- a run that is over
abbrev pub over_core : RunState → RunState
over_core c = record c { stage = stage.Over }

-- The run ends so: its events led to a state that allows the stop, and what remains of its datasets there is known.
pub closes : (first : Machine) (c : RunState) (programs : List (List Step)) (states : ℕ → DeviceState) (events events' : List Event) (why : StopCause) (m : Machine)
    → IsLawful states → IsFair (setup_of c) first → RunsTo (setup_of c) first events m → may_stop m why ≡ true → events' ≡ events ++ event.Stop why ∷ []
    → IsTrue (begins_run c.places (events ++ event.Stop why ∷ [])) × AreOfPrograms programs (events ++ event.Stop why ∷ []) → IsTrue (list_all (λ e. not (is_stop e)) events)
    → (goes_well why ≡ true → LetsBegin (setup_of c) states why m) → Remains c states m why → Leads first (over_core c) programs states events'
closes first c programs states events events' why m law fair run stop more told goes well r = record {
  state = after_stop (setup_of c) m no_choice;
  run = run_on (setup_of c) first m (after_stop (setup_of c) m no_choice) events events' (event.Stop why) more run (chosen (setup_of c) m why stop);
  holds = tt;
  told = tt;
  closes = record {
    front = events;
    why = why;
    is = more;
    before = m;
    run = run;
    safe = made_safe (setup_of c) states m why r.made stop r.may (remains_stand c states m why r law (run_fair (setup_of c) first events m run fair));
    well = well;
    begin = subst (λ (es : List Event). IsTrue (begins_run c.places es)) (sym more) told.0;
    steps = subst (λ (es : List Event). AreOfPrograms programs es) (sym more) told.1;
    goes_on = goes;
  };
}

-- ## A good end

-- a stop that nothing was made before and no number was stored by
abbrev pub plain_choice : List Bool → Bool → Choice
plain_choice entries took = record { made = []; entries = entries; took = took; stored = false }

none_made : (s : Setup) (m : Machine) (why : StopCause) (made : List Event) → goes_well why ≡ true → IsTrue (may_make s m why made) → made ≡ []
none_made s m why [] good may_be = refl
none_made s m cause.Ended (e ∷ es) good may_be = absurd (cc may_be)
none_made s m cause.Runs (e ∷ es) good may_be = absurd (cc may_be)
none_made s m cause.Script (e ∷ es) good may_be = absurd (cc good)
none_made s m (cause.Device node count) (e ∷ es) good may_be = absurd (cc good)
none_made s m (cause.Full node used capacity) (e ∷ es) good may_be = absurd (cc good)
none_made s m cause.Command (e ∷ es) good may_be = absurd (cc may_be)

-- where a run ends by itself and no further number can be stored, its stop decides nothing
pub decides_nothing : (s : Setup) (m : Machine) (why : StopCause) (c : Choice) → goes_well why ≡ true → (IsTrue (may_store m true) → ⊥) → IsTrue (may_choose s m why c) → c ≡ plain_choice c.entries c.took
decides_nothing s m why c good no_number may_be =
    let stored = behind (may_stop m why && may_make s m why c.made) (may_store m c.stored) may_be in
    let made = behind (may_stop m why) (may_make s m why c.made) (front (may_stop m why && may_make s m why c.made) (may_store m c.stored) may_be) in
    ap₂ (λ (es : List Event) (b : Bool). let x : Choice = record { made = es; entries = c.entries; took = c.took; stored = b } in x) (none_made s m why c.made good made) (not_stored c.stored stored)
  where
    not_stored : (b : Bool) → IsTrue (may_store m b) → b ≡ false
    not_stored false may_be = refl
    not_stored true may_be = absurd (no_number may_be)

-- ## A run that is over

pub closed : (first : Machine) (c : RunState) (programs : List (List Step)) (states : ℕ → DeviceState) (events : List Event) → is_over c.stage ≡ true → Leads first c programs states events → Closes (setup_of c) states first c.places programs events
closed first c programs states events over leads = at c.stage over leads.closes where
  at : (x : RunStage) → is_over x ≡ true → ClosesAt x (setup_of c) first c.places programs states events → Closes (setup_of c) states first c.places programs events
  at stage.Over on h = h
  at stage.Begun on h = absurd (cc on)
  at stage.Storing on h = absurd (cc on)
  at stage.Looking on h = absurd (cc on)
  at stage.Mending on h = absurd (cc on)
  at stage.Serving on h = absurd (cc on)
  at (stage.Saving w n) on h = absurd (cc on)
  at (stage.Dropping d n) on h = absurd (cc on)
  at stage.Dropped on h = absurd (cc on)
