-- The round of a dataset that is gone is decided, or its run ended by a device.
use Rattle.std.proofs.Common.{◌≡◌, inl, inr, ℕ, ◌<◌, Bool, true, false, List, [], ◌∷◌, ◌++◌, map, Option, None, Some, refl, sym, ap, ◌∙◌, subst, slice_get}
use Rattle.std.proofs.lemmas.List.{length-map}
use Rattle.std.specs.Prelude.{◌&&◌, is_none, unwrap_or, option_map, if◌then◌else◌}
use Rattle.std.specs.List.{list_all}
use Rattle.scr_base.specs.declared.answers.Phase.TheVariants as phase
use Rattle.scr_base.specs.declared.answers.Refusal.{Refusal}
use Rattle.scr_base.specs.declared.answers.Refusal.TheVariants as refusal
use Rattle.scr_base.specs.declared.answers.Reply.{Reply}
use Rattle.scr_base.specs.declared.answers.Reply.TheVariants as reply
use Rattle.scr_base.specs.declared.content.Step.{Step}
use Rattle.scr_base.specs.declared.content.Step.TheVariants as step
use Rattle.scr_base.specs.declared.shape.DataId.{DataId}
use Rattle.node_device.specs.DeviceState.{DeviceState}
use Rattle.member_store.specs.Names.{record_name, IsPlace}
use Rattle.ckpt_model.specs.declared.event.Event.{Event}
use Rattle.ckpt_model.specs.declared.event.Event.TheVariants as event
use Rattle.ckpt_model.specs.declared.event.Kind.TheVariants as kind
use Rattle.ckpt_model.specs.Dataset.{Dataset}
use Rattle.ckpt_model.specs.Machine.{Machine}
use Rattle.ckpt_model.specs.Questions.{verdict}
use Rattle.ckpt_model.specs.Answers.{is_fault, is_refused, is_answer, may_answer, may_fault, answer_to, answer_if, is_saved, round_answer, effect_of, effect, fault_effect}
use Rattle.ckpt_model.specs.Runs.{RunsTo, StepsTo}
use Rattle.ckpt_model.proofs.RunLemmas.{run_on}
use Rattle.round_core.specs.Seats.{is_complete, first_call, seat_is_valid, owed}
use Rattle.site_state.specs.declared.cache.Manifest.{Manifest}
use Rattle.site_state.specs.declared.run_state.RunState.{RunState}
use Rattle.site_state.specs.declared.run_state.DropStep.{DropStep}
use Rattle.site_state.specs.declared.run_state.RunStage.TheVariants as stage
use Rattle.node_device.specs.Rack.{Rack, OnlyAt, states_of}
use Rattle.site_calls.specs.Calls.{KeptAlike}
use Rattle.site_calls.specs.declared.trouble.Trouble.{Trouble}
use Rattle.site_calls.specs.declared.trouble.Trouble.TheVariants as error
use Rattle.site_core.specs.declared.site.Site.{Site}
use Rattle.ckpt_model.specs.declared.event.StopCause.TheVariants as cause
use Rattle.site_calls.specs.Causes.{is_device_fault}
use Rattle.site_core.specs.Causes.{cause_of}
use Rattle.site_core.specs.Follows.{Keeps, IsCarried}
use Rattle.node_device.specs.Rack.{states_of}
use Rattle.site_state.specs.Choosing.{verdict_of}
use Rattle.site_state.specs.Cores.{closed_core, dropped_answer}
use Rattle.site_state.specs.Shown.{Contents, running, setup_of}
use Rattle.site_core.specs.Stored.{Cells, cells_of, contents_of, IsKnown, NoOtherRecords}
use Rattle.site_core.specs.Holds.{Leads, IsDropped}
use Rattle.site_state.specs.Asked.{IsDropCause}
use Rattle.site_core.proofs.Told.{leads_up, tells_more}
use Rattle.model_proper.specs.Fair.{IsFair}
use Rattle.site_core.proofs.Cuts.{cut_round}
use Rattle.site_core.proofs.Closing.{IsLawful, over_core}
use Rattle.site_core.proofs.LeftStages.{IsLeft, remains, stage_left, left_alike}
use Rattle.site_core.proofs.Turns.{leads_so, lawful}
use Rattle.site_state.proofs.Gates.{both, round_is}
use Rattle.site_state.proofs.Ranks.{first_is, owed_is}
use Rattle.site_state.proofs.Rounds.{verdict_is, all_valid_is}
use Rattle.site_core.proofs.Removing.{dropping_at, dropped_at}

-- ## The machine's step

-- the run's state, with whatever dataset open
abbrev with_dataset : Contents → RunState → Dataset → Machine
with_dataset bytes c d = let m : Machine = running bytes c in record m { open_dataset = Some d }

-- the dataset is gone, and the clock's reading is still there
abbrev closing_core : RunState → RunState
closing_core c = record c { stage = stage.Serving; opened = None; phase = phase.Idle; refusal = None }

module _ (c : RunState) (bytes : Contents) (d : Dataset) (valid : Bool) (complete : is_complete c.ranks ≡ true) (first : first_call c.ranks ≡ Some (step.Complete valid)) (clear : verdict_of c (step.Complete valid) ≡ None) where
  call : Step
  call = step.Complete valid

  clear_then : verdict (with_dataset bytes c d) ≡ None
  clear_then = verdict_is c bytes (step.Complete valid) first ∙ clear

  closes : (a : Reply) → may_answer (setup_of c) (with_dataset bytes c d) a (step.Complete valid) ≡ true → effect_of (setup_of c) (with_dataset bytes c d) a (step.Complete valid) ≡ running bytes (closing_core c)
      → StepsTo (setup_of c) (with_dataset bytes c d) (event.Decided kind.Complete a) (running bytes (closed_core (record c { ranks = map (owed a) c.ranks })))
  closes a may changes = (
    both _ _ (round_is c bytes ∙ complete) (ap (λ (o : Option Step). unwrap_or (option_map (λ x. Rattle.ckpt_model.specs.Answers.is_of_kind kind.Complete x && may_answer (setup_of c) (with_dataset bytes c d) a x) o) false) (first_is c.ranks ∙ first) ∙ may),
    rw (first_is c.ranks ∙ first, changes, owed_is a c.ranks) refl,
  )

  pub not_kept : list_all seat_is_valid c.ranks ≡ false
      → StepsTo (setup_of c) (with_dataset bytes c d) (event.Decided kind.Complete reply.NotKept) (running bytes (closed_core (record c { ranks = map (owed reply.NotKept) c.ranks })))
  not_kept some = closes reply.NotKept
      (ap (λ (v : Option Refusal). is_answer (unwrap_or (option_map (λ r. Some (reply.Refused r)) v) (answer_to (setup_of c) (with_dataset bytes c d) (step.Complete valid))) reply.NotKept) clear_then
      ∙ ap (λ (b : Bool). is_answer (if b then answer_if (is_saved (with_dataset bytes c d)) reply.Kept else Some reply.NotKept) reply.NotKept) (all_valid_is c bytes ∙ some))
      refl

  pub refused_it : (r : Refusal) → is_fault (reply.Refused r) ≡ true → list_all seat_is_valid c.ranks ≡ true
      → StepsTo (setup_of c) (with_dataset bytes c d) (event.Decided kind.Complete (reply.Refused r)) (running bytes (closed_core (record c { ranks = map (owed (reply.Refused r)) c.ranks })))
  refused_it r fault all = closes (reply.Refused r)
      (ap (λ (b : Bool). if b then is_none (verdict (with_dataset bytes c d)) && may_fault (with_dataset bytes c d) (step.Complete valid) else is_answer (round_answer (setup_of c) (with_dataset bytes c d) (step.Complete valid)) (reply.Refused r)) fault
      ∙ both _ _ (ap (λ (v : Option Refusal). is_none v) clear_then) (both _ _ (all_valid_is c bytes ∙ all) refl))
      (ap (λ (b : Bool). if b then fault_effect (with_dataset bytes c d) (step.Complete valid) else with_dataset bytes c d) fault)

  pub decided_by : (o : Option Refusal) → IsDropCause c o
      → StepsTo (setup_of c) (with_dataset bytes c d) (event.Decided kind.Complete (dropped_answer o)) (running bytes (closed_core (record c { ranks = map (owed (dropped_answer o)) c.ranks })))
  decided_by None some = not_kept some
  decided_by (Some r) why = refused_it r why.0 why.1

-- a refusal by a device is the one that the round carries
pub carries : (o : Option Refusal) → IsCarried o (dropped_answer o)
carries None = tt
carries (Some (refusal.Device node count)) = refl
carries (Some (refusal.Full node used capacity)) = refl
carries (Some (refusal.Mismatch rank)) = tt
carries (Some (refusal.Phase phase)) = tt
carries (Some refusal.BadName) = tt
carries (Some refusal.NoFile) = tt
carries (Some refusal.Limit) = tt
carries (Some (refusal.NameTaken which)) = tt

-- ## The run then

pub dropped_decided : (first : Machine) (c : RunState) (programs : List (List Step)) (states : ℕ → DeviceState) (events events' : List Event) (a : Reply) → c.stage ≡ stage.Dropped → a ≡ dropped_answer c.refusal → events' ≡ events ++ event.Decided kind.Complete a ∷ [] → Leads first c programs states events
    → Leads first (closed_core (record c { ranks = map (owed a) c.ranks })) programs states events'
dropped_decided first c programs states events events' a at is more leads =
    let x = dropped_at first c programs states events at leads in
    let h = x.0 in
    let bytes = contents_of (cells_of states) c in
    let d : RunState = closed_core (record c { ranks = map (owed a) c.ranks }) in
    let step_to = subst (λ (r : Reply). StepsTo (setup_of c) (with_dataset bytes c h.dataset) (event.Decided kind.Complete r) (running bytes (closed_core (record c { ranks = map (owed r) c.ranks })))) (sym is)
    (decided_by c bytes h.dataset h.round.valid h.round.complete h.round.first h.round.clear c.refusal h.round.why) in
    leads_up first d programs states events' refl (record {
      run = run_on (setup_of c) first (with_dataset bytes c h.dataset) (running bytes d) events events' (event.Decided kind.Complete a) more (subst (λ (m : Machine). RunsTo (setup_of c) first events m) h.is leads.run) step_to;
      so_far = tells_more c.places programs events events' (event.Decided kind.Complete a) more x.1 tt refl;
      well = record {
        single = h.well.single;
        places = h.well.places;
        rise = h.well.rise;
        below = h.well.below;
        sets = λ y known. h.well.sets y (known_before y known);
        opened_run = λ y e. absurd (cc e);
        opened_below = λ y e. absurd (cc e);
        opened_last = λ y e. absurd (cc e);
        output = λ y e. absurd (cc e);
        ranks = length-map c.ranks (owed a) ∙ h.well.ranks;
      };
      files = record {
        stored = h.stored;
        halted = h.halted;
        unindexed = h.unindexed;
        files = λ y known. h.files y (kept_one y known);
        records = λ i y here sealed. h.records i y here;
        others = λ p which node low place foreign. none_there h p which node low place foreign (cells_of states p (record_name which node)) refl;
        future = h.future;
        fresh = λ y e. absurd (cc e);
      };
      quiet = λ p q low calm. h.quiet p q low (λ lt un. absurd (cc un));
      unrecorded = λ y e. absurd (cc e);
      working = (h.mended, h.sealed);
    }) where
      kept_one : (y : Manifest) → IsKnown (closed_core (record c { ranks = map (owed a) c.ranks })) y → Rattle.site_core.specs.Stored.IsAmong c.kept y
      kept_one y (inl e) = absurd (cc e)
      kept_one y (inr among) = among

      known_before : (y : Manifest) → IsKnown (closed_core (record c { ranks = map (owed a) c.ranks })) y → IsKnown c y
      known_before y known = inr (kept_one y known)

      some_same : (y z : Manifest) → Some y ≡ Some z → y ≡ z
      some_same y z e = cc

      none_there : {m : Machine} (h : IsDropped c states m) (p : ℕ) (which : DataId) (node : ℕ) → p < 32 → IsPlace which node → ((y : Manifest) → IsKnown (closed_core (record c { ranks = map (owed a) c.ranks })) y → y.desc.which ≡ which → slice_get c.places node ≡ Some p → ⊥)
          → (o : Option (List ℕ)) → cells_of states p (record_name which node) ≡ o → cells_of states p (record_name which node) ≡ None
      none_there h p which node low place foreign None e = e
      none_there h p which node low place foreign (Some b) e = h.others p which node low place (λ y known same home. foreign_too y known same home) where
        foreign_too : (y : Manifest) → IsKnown c y → y.desc.which ≡ which → slice_get c.places node ≡ Some p → ⊥
        foreign_too y (inr among) same home = foreign y (inr among) same home
        foreign_too y (inl opened) same home =
            absurd (cc (h.removed node p home refl, ap (λ (z : Manifest). cells_of states p (record_name z.desc.which node)) (some_same h.set y (sym h.opened ∙ opened)), ap (λ (w : DataId). cells_of states p (record_name w node)) same, e))

-- ## A device ends a removal

-- a device failed at a file that was to go, or at the sync behind it; the devices may have changed meanwhile
pub cut_dropping : (first : Machine) (c : RunState) (programs : List (List Step)) (states after : ℕ → DeviceState) (events events' : List Event) (t : Trouble) (d : DropStep) (n : ℕ)
    → IsLawful after → IsFair (setup_of c) first → c.stage ≡ stage.Dropping d n → Leads first c programs states events → is_device_fault t ≡ true → events' ≡ events ++ event.Stop (cause_of t) ∷ [] → (place : ℕ) → OnlyAt place KeptAlike states after → Leads first (over_core c) programs after events'
cut_dropping first c programs states after events events' t d n law fair at leads fault more place done = pick t fault more where
  pick : (t : Trouble) → is_device_fault t ≡ true → events' ≡ events ++ event.Stop (cause_of t) ∷ [] → Leads first (over_core c) programs after events'
  pick (error.Fault node count) f e =
      let x = dropping_at first c programs states events d n at leads in
      let h = x.0.leaves in
      let bytes = contents_of (cells_of states) c in
      cut_round first c programs after events events' node count (with_dataset bytes c h.dataset) h.round.valid law fair (subst (λ (m : Machine). RunsTo (setup_of c) first events m) h.is leads.run) (round_is c bytes ∙ h.round.complete) (first_is c.ranks ∙ h.round.first) x.1 e
      (remains c after (with_dataset bytes c h.dataset) (cause.Device node count) (subst (λ (m : Machine). IsLeft c after m) h.is (left_alike c place states after leads.state done (stage_left (stage.Dropping d n) c states leads.state at refl x.0))))
  pick error.Memory f e = absurd (cc f)
  pick (error.Full node used capacity) f e = absurd (cc f)

module _ {D : Type 0} (state : D → DeviceState) (old new : Site D) (t : Trouble) (is : new.history.events ≡ old.history.events ++ event.Stop (cause_of t) ∷ []) (core : new.core ≡ over_core old.core) (programs : new.programs ≡ old.programs) where
  pub ends_dropping : (d : DropStep) (n : ℕ) → old.core.stage ≡ stage.Dropping d n → is_device_fault t ≡ true → (place : ℕ) (bay : Rack D) → new.bay ≡ bay → OnlyAt place KeptAlike (states_of state old.bay) (states_of state bay) → Keeps state old new
  ends_dropping d n at fault place bay same done tells first base f =
      leads_so state old new t is core programs first (cut_dropping first old.core old.programs (states_of state old.bay) (states_of state new.bay) old.history.events new.history.events t d n (lawful state base.sound new.bay) base.fair at f fault is place (subst (λ (b : Rack D). OnlyAt place KeptAlike (states_of state old.bay) (states_of state b)) (sym same) done))
