-- A run that a device ends.
use Rattle.std.proofs.Common.{◌≡◌, ◌⊎◌, inl, inr, ℕ, Bool, true, false, List, [], ◌∷◌, ◌++◌, Option, Some, refl, sym, ap, ◌∙◌, subst}
use Rattle.std.specs.Prelude.{IsTrue, is_some, ◌==◌, not, ◌&&◌, ◌||◌, unwrap_or, option_map}
use Rattle.std.specs.List.{list_all}
use Rattle.scr_base.specs.declared.content.Step.{Step}
use Rattle.scr_base.specs.declared.content.Step.TheVariants as step
use Rattle.node_device.specs.DeviceState.{DeviceState}
use Rattle.ckpt_model.specs.declared.event.Event.{Event}
use Rattle.ckpt_model.specs.declared.event.Event.TheVariants as event
use Rattle.ckpt_model.specs.declared.event.StopCause.{StopCause}
use Rattle.ckpt_model.specs.declared.event.StopCause.TheVariants as cause
use Rattle.ckpt_model.specs.Machine.{Machine}
use Rattle.ckpt_model.specs.Stops.{may_stop, is_before_calls, is_working_call}
use Rattle.ckpt_model.specs.Runs.{RunsTo}
use Rattle.model_proper.specs.Fair.{IsFair}
use Rattle.site_state.specs.declared.run_state.RunState.{RunState}
use Rattle.site_state.specs.declared.run_state.RunStage.{RunStage}
use Rattle.site_state.specs.declared.run_state.RunStage.TheVariants as stage
use Rattle.site_state.specs.Shown.{running, setup_of}
use Rattle.site_core.specs.Stored.{cells_of, contents_of}
use Rattle.site_calls.specs.Causes.{is_device_fault}
use Rattle.site_core.specs.Causes.{is_told, cause_of}
use Rattle.site_state.specs.declared.cache.Manifest.{Manifest}
use Rattle.site_state.specs.declared.run_state.SaveStep.{SaveStep}
use Rattle.site_calls.specs.declared.trouble.Trouble.{Trouble}
use Rattle.site_calls.specs.declared.trouble.Trouble.TheVariants as error
use Rattle.site_state.proofs.Ranks.{first_is}
use Rattle.site_core.specs.Holds.{IsSaving, Leads, HoldsAt, ToldAt, IsLooking, IsSoFar, goes_well}
use Rattle.ckpt_model.specs.Legal.{begins_run, AreOfPrograms, is_stop}
use Rattle.ckpt_model.specs.Steps.{is_between, is_begun, is_round_and}
use Rattle.ckpt_model.specs.Questions.{is_complete, is_running, is_recovering, first_call as machine_call}
use Rattle.site_state.proofs.Gates.{both, round_is}
use Rattle.site_core.proofs.Told.{tells_end}
use Rattle.site_core.proofs.Closing.{IsLawful, over_core, closes}
use Rattle.site_core.proofs.LeftStages.{IsLeft, Remains, remains}

-- a device's fault, or a full device
abbrev pub is_device_end : StopCause → Bool
is_device_end (cause.Device node count) = true
is_device_end (cause.Full node used capacity) = true
is_device_end _ = false

or_true : (a b : Bool) → a ≡ true → a || b ≡ true
or_true true b e = refl
or_true false b e = absurd (cc e)

or_later : (a b : Bool) → b ≡ true → a || b ≡ true
or_later true b e = refl
or_later false b e = e

-- a device's end is no good one
no_good_end : (why : StopCause) → is_device_end why ≡ true → goes_well why ≡ true → ⊥
no_good_end (cause.Device node count) e good = absurd (cc good)
no_good_end (cause.Full node used capacity) e good = absurd (cc good)
no_good_end cause.Script e good = absurd (cc e)
no_good_end cause.Ended e good = absurd (cc e)
no_good_end cause.Runs e good = absurd (cc e)
no_good_end cause.Command e good = absurd (cc e)

may_before : (m : Machine) (why : StopCause) → is_between m.stage ≡ true → is_device_end why ≡ true → may_stop m why ≡ true
may_before m (cause.Device node count) at end = or_true (is_before_calls m || is_some m.flushing) (is_complete m && is_round_and is_working_call m) (or_true (is_before_calls m) (is_some m.flushing) (or_true (is_between m.stage || is_begun m.stage) (is_running m.stage && list_all (λ r. r.number == 0) m.ranks) (or_true (is_between m.stage) (is_begun m.stage) at)))
may_before m (cause.Full node used capacity) at end = or_true (is_between m.stage || is_begun m.stage) (is_running m.stage && is_recovering m) (or_true (is_between m.stage) (is_begun m.stage) at)
may_before m cause.Script at end = absurd (cc end)
may_before m cause.Ended at end = absurd (cc end)
may_before m cause.Runs at end = absurd (cc end)
may_before m cause.Command at end = absurd (cc end)

may_begun : (m : Machine) (why : StopCause) → is_begun m.stage ≡ true → is_device_end why ≡ true → may_stop m why ≡ true
may_begun m (cause.Device node count) at end = or_true (is_before_calls m || is_some m.flushing) (is_complete m && is_round_and is_working_call m) (or_true (is_before_calls m) (is_some m.flushing) (or_true (is_between m.stage || is_begun m.stage) (is_running m.stage && list_all (λ r. r.number == 0) m.ranks) (or_later (is_between m.stage) (is_begun m.stage) at)))
may_begun m (cause.Full node used capacity) at end = or_true (is_between m.stage || is_begun m.stage) (is_running m.stage && is_recovering m) (or_later (is_between m.stage) (is_begun m.stage) at)
may_begun m cause.Script at end = absurd (cc end)
may_begun m cause.Ended at end = absurd (cc end)
may_begun m cause.Runs at end = absurd (cc end)
may_begun m cause.Command at end = absurd (cc end)

may_round : (m : Machine) (node count : ℕ) (valid : Bool) → is_complete m ≡ true → machine_call m ≡ Some (step.Complete valid) → may_stop m (cause.Device node count) ≡ true
may_round m node count valid complete call =
    let works : is_round_and is_working_call m ≡ true = ap (λ (o : Option Step). unwrap_or (option_map is_working_call o) false) call in
    let both_are : (is_complete m && is_round_and is_working_call m) ≡ true = both (is_complete m) (is_round_and is_working_call m) complete works in
    or_later (is_before_calls m || is_some m.flushing) (is_complete m && is_round_and is_working_call m) both_are

abbrev pub is_early : RunStage → Bool
is_early stage.Begun = true
is_early stage.Storing = true
is_early _ = false

nothing_told : (s : RunStage) (places : List ℕ) (programs : List (List Step)) (events : List Event) → is_early s ≡ true → ToldAt s places programs events → events ≡ []
nothing_told stage.Begun places programs events e told = told
nothing_told stage.Storing places programs events e told = told
nothing_told stage.Looking places programs events e told = absurd (cc e)
nothing_told stage.Mending places programs events e told = absurd (cc e)
nothing_told stage.Serving places programs events e told = absurd (cc e)
nothing_told (stage.Saving w n) places programs events e told = absurd (cc e)
nothing_told (stage.Dropping d n) places programs events e told = absurd (cc e)
nothing_told stage.Dropped places programs events e told = absurd (cc e)
nothing_told stage.Over places programs events e told = absurd (cc e)

still_between : (s : RunStage) (c : RunState) (states : ℕ → DeviceState) (m : Machine) → is_early s ≡ true → HoldsAt s c states m → is_between m.stage ≡ true
still_between stage.Begun c states m e h = ap is_between h.begins.between
still_between stage.Storing c states m e h = ap is_between h.between
still_between stage.Looking c states m e h = absurd (cc e)
still_between stage.Mending c states m e h = absurd (cc e)
still_between stage.Serving c states m e h = absurd (cc e)
still_between (stage.Saving w n) c states m e h = absurd (cc e)
still_between (stage.Dropping d n) c states m e h = absurd (cc e)
still_between stage.Dropped c states m e h = absurd (cc e)
still_between stage.Over c states m e h = absurd (cc e)

not_early : (s : RunStage) (c : RunState) → c.stage ≡ s → (c.stage ≡ stage.Begun) ⊎ (c.stage ≡ stage.Storing) → is_early s ≡ true
not_early s c e (inl at) = ap is_early (sym e ∙ at)
not_early s c e (inr at) = ap is_early (sym e ∙ at)

-- ## Where a device may end a run

-- nothing was told yet
pub cut_early : (first : Machine) (c : RunState) (programs : List (List Step)) (states after : ℕ → DeviceState) (events events' : List Event) (why : StopCause)
    → IsLawful after → IsFair (setup_of c) first → (c.stage ≡ stage.Begun) ⊎ (c.stage ≡ stage.Storing) → is_device_end why ≡ true → events' ≡ events ++ event.Stop why ∷ [] → (leads : Leads first c programs states events) → IsLeft c after leads.state → Leads first (over_core c) programs after events'
cut_early first c programs states after events events' why law fair at end more leads left =
    let early = not_early c.stage c refl at in
    let none = nothing_told c.stage c.places programs events early leads.told in
    closes first c programs after events events' why leads.state law fair leads.run (may_before leads.state why (still_between c.stage c states leads.state early leads.holds) end) more
    (subst (λ (es : List Event). IsTrue (begins_run c.places (es ++ event.Stop why ∷ [])) × AreOfPrograms programs (es ++ event.Stop why ∷ [])) (sym none) (refl, (tt, tt)))
    (subst (λ (es : List Event). IsTrue (list_all (λ e. not (is_stop e)) es)) (sym none) refl) (λ good. absurd (no_good_end why end good)) (remains c after leads.state why left)

-- the records are being read
pub cut_looking : (first : Machine) (c : RunState) (programs : List (List Step)) (states after : ℕ → DeviceState) (events events' : List Event) (why : StopCause)
    → IsLawful after → IsFair (setup_of c) first → c.stage ≡ stage.Looking → is_device_end why ≡ true → events' ≡ events ++ event.Stop why ∷ [] → (leads : Leads first c programs states events) → IsLeft c after leads.state → Leads first (over_core c) programs after events'
cut_looking first c programs states after events events' why law fair at end more leads left =
    let h : IsLooking c states leads.state = subst (λ (s : RunStage). HoldsAt s c states leads.state) at leads.holds in
    let so_far : IsSoFar c.places programs events = subst (λ (s : RunStage). ToldAt s c.places programs events) at leads.told in
    closes first c programs after events events' why leads.state law fair leads.run (may_begun leads.state why (ap (λ (m : Machine). is_begun m.stage) h.is) end) more (tells_end c.places programs events (event.Stop why) so_far tt) so_far.goes_on (λ good. absurd (no_good_end why end good)) (remains c after leads.state why left)

-- a round of Complete is to be decided
pub cut_round : (first : Machine) (c : RunState) (programs : List (List Step)) (after : ℕ → DeviceState) (events events' : List Event) (node count : ℕ) (m : Machine) (valid : Bool)
    → IsLawful after → IsFair (setup_of c) first → RunsTo (setup_of c) first events m → is_complete m ≡ true → machine_call m ≡ Some (step.Complete valid) → IsSoFar c.places programs events → events' ≡ events ++ event.Stop (cause.Device node count) ∷ []
    → Remains c after m (cause.Device node count) → Leads first (over_core c) programs after events'
cut_round first c programs after events events' node count m valid law fair run complete call so_far more left =
    closes first c programs after events events' (cause.Device node count) m law fair run (may_round m node count valid complete call) more (tells_end c.places programs events (event.Stop (cause.Device node count)) so_far tt) so_far.goes_on (λ good. absurd (cc good)) left

-- ## What a refused call brings

pub told_ends : (t : Trouble) → is_told t ≡ true → is_device_end (cause_of t) ≡ true
told_ends error.Memory e = absurd (cc e)
told_ends (error.Fault node count) e = refl
told_ends (error.Full node used capacity) e = refl

-- a device failed at a gate of the dataset that is being saved
pub cut_saving : (first : Machine) (c : RunState) (programs : List (List Step)) (states after : ℕ → DeviceState) (events events' : List Event) (t : Trouble) (w : SaveStep) (n : ℕ) (m : Manifest)
    → IsLawful after → IsFair (setup_of c) first → IsSaving first c programs states events w n m → is_device_fault t ≡ true → events' ≡ events ++ event.Stop (cause_of t) ∷ []
    → Remains c after (running (contents_of (cells_of states) c) c) (cause_of t) → Leads first (over_core c) programs after events'
cut_saving first c programs states after events events' t w n m law fair h fault more left = pick t fault more left where
  pick : (t : Trouble) → is_device_fault t ≡ true → events' ≡ events ++ event.Stop (cause_of t) ∷ [] → Remains c after (running (contents_of (cells_of states) c) c) (cause_of t) → Leads first (over_core c) programs after events'
  pick (error.Fault node count) f e left =
      let bytes = contents_of (cells_of states) c in
      cut_round first c programs after events events' node count (running bytes c) h.saves.round.valid law fair h.run (round_is c bytes ∙ h.saves.round.complete) (first_is c.ranks ∙ h.saves.round.first) h.so_far e left
  pick error.Memory f e left = absurd (cc f)
  pick (error.Full node used capacity) f e left = absurd (cc f)
