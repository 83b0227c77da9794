-- What a call that a device refused leaves, and how it is told.
use Rattle.std.proofs.Common.{◌≡◌, ◌≢◌, ◌⊎◌, inl, inr, ℕ, ◌+◌, ◌<◌, ◌≤◌, true, false, List, [], ◌∷◌, ◌++◌, Some, None, Err, refl, sym, ap, subst, slice_get}
use Rattle.std.specs.Prelude.{slice_set}
use Rattle.std.proofs.Math.Path.{fun_ext}
use Rattle.std.proofs.lemmas.Bool.{cases_eq}
use Rattle.scr_base.specs.declared.answers.Refusal.{Refusal}
use Rattle.scr_base.specs.declared.answers.Reply.TheVariants as reply
use Rattle.scr_base.specs.declared.content.Step.{Step}
use Rattle.node_device.specs.File.{IsAtRest}
use Rattle.node_device.specs.DeviceState.{DeviceState, ReadsAlike}
use Rattle.node_device.specs.Rack.{OnlyAt}
use Rattle.ckpt_model.specs.Answers.{is_fault, may_fault_local}
use Rattle.ckpt_model.specs.declared.event.Event.{Event}
use Rattle.ckpt_model.specs.declared.event.Event.TheVariants as event
use Rattle.ckpt_model.specs.Machine.{Machine}
use Rattle.ckpt_model.specs.Runs.{RunsTo}
use Rattle.round_core.specs.declared.seat.Seat.{Seat}
use Rattle.round_core.specs.Seats.{stepped}
use Rattle.site_state.specs.declared.run_state.RunState.{RunState}
use Rattle.site_state.specs.declared.run_state.RunStage.{RunStage}
use Rattle.site_state.specs.declared.run_state.RunStage.TheVariants as stage
use Rattle.site_calls.specs.declared.trouble.Trouble.{Trouble}
use Rattle.site_calls.specs.declared.trouble.Trouble.TheVariants as error
use Rattle.site_state.specs.Shown.{running, setup_of}
use Rattle.site_state.specs.Choosing.{local_verdict_of}
use Rattle.site_core.specs.Stored.{Cells, cells_of, contents_of, FilesHold}
use Rattle.site_calls.specs.Calls.{Refused, KeptAlike}
use Rattle.site_calls.specs.Causes.{CallCause, told_trouble}
use Rattle.site_calls.specs.Causes.{is_device_fault}
use Rattle.site_core.specs.Causes.{is_told, cause_of}
use Rattle.site_core.specs.Holds.{Leads, WorkIs, NoRecordYet, IsPending}
use Rattle.site_core.specs.Follows.{IsRefusedFor, IsEndedFor, IsWorkersEnd}
use Rattle.site_state.specs.Steps.{IsNextLocal}
use Rattle.site_core.proofs.Told.{is_up, led, leads_up}
use Rattle.site_state.proofs.Locals.{faults_local}
use Rattle.site_core.proofs.LocalSteps.{tells_local, same_seat}
use Rattle.site_core.proofs.Serving.{at_work}

some_refusal : (x y : Refusal) → Some x ≡ Some y → x ≡ y
some_refusal x y q = cc

-- what is told of a refused call is a device's fault or a full device
pub told_faults : (t : Trouble) (r : Refusal) → told_trouble t ≡ Some r → is_fault (reply.Refused r) ≡ true
told_faults error.Memory r e = absurd (cc e)
told_faults (error.Fault node count) r e = subst (λ (x : Refusal). is_fault (reply.Refused x) ≡ true) (some_refusal _ r e) refl
told_faults (error.Full node used capacity) r e = subst (λ (x : Refusal). is_fault (reply.Refused x) ≡ true) (some_refusal _ r e) refl

-- a refusal that is told of a refused call has its cause
pub refused_for : (T : Type 0) (may : ℕ → List ℕ → ℕ → ℕ → Type 0) (old new : ℕ → DeviceState) (t : Trouble) (r : Refusal) → told_trouble t ≡ Some r → CallCause {T = T} may old new (Err t) → IsRefusedFor may old new (reply.Refused r)
refused_for T may old new error.Memory r e why = absurd (cc e)
refused_for T may old new (error.Fault node count) r e why = subst (λ (x : Refusal). IsRefusedFor may old new (reply.Refused x)) (some_refusal _ r e) why
refused_for T may old new (error.Full node used capacity) r e why = subst (λ (x : Refusal). IsRefusedFor may old new (reply.Refused x)) (some_refusal _ r e) why

-- so has an end that is told of it
pub ended_for : (T : Type 0) (may : ℕ → List ℕ → ℕ → ℕ → Type 0) (old new : ℕ → DeviceState) (t : Trouble) → CallCause {T = T} may old new (Err t) → IsEndedFor may old new (cause_of t)
ended_for T may old new error.Memory why = tt
ended_for T may old new (error.Fault node count) why = why
ended_for T may old new (error.Full node used capacity) why = why

pub ended_by : (t : Trouble) → is_told t ≡ true → IsWorkersEnd (cause_of t)
ended_by error.Memory e = absurd (cc e)
ended_by (error.Fault node count) e = tt
ended_by (error.Full node used capacity) e = tt

-- a fault's cause says nothing of writes
pub fault_cause : (T : Type 0) (may more : ℕ → List ℕ → ℕ → ℕ → Type 0) (old new : ℕ → DeviceState) (t : Trouble) → is_device_fault t ≡ true → CallCause {T = T} may old new (Err t) → CallCause {T = T} more old new (Err t)
fault_cause T may more old new error.Memory is why = absurd (cc is)
fault_cause T may more old new (error.Fault node count) is why = why
fault_cause T may more old new (error.Full node used capacity) is why = absurd (cc is)

pub fault_is_told : (t : Trouble) → is_device_fault t ≡ true → is_told t ≡ true
fault_is_told error.Memory e = absurd (cc e)
fault_is_told (error.Fault node count) e = refl
fault_is_told (error.Full node used capacity) e = absurd (cc e)

-- ## What stays

module _ (place : ℕ) (old new : ℕ → DeviceState) where
  pub cells_alike : ReadsAlike (old place) (new place) → ((q : ℕ) → q ≢ place → new q ≡ old q) → cells_of new ≡ cells_of old
  cells_alike alike others = fun_ext (λ p. pick p (cases_eq p place)) where
    pick : (p : ℕ) → (p ≡ place) ⊎ (p ≢ place) → cells_of new p ≡ cells_of old p
    pick p (inl is) = subst (λ (q : ℕ). cells_of new q ≡ cells_of old q) (sym is) (fun_ext (λ q. (alike.files q).now))
    pick p (inr away) = ap (λ (d : DeviceState). λ (q : List ℕ). (d.file q).now) (others p away)

  pub refused_rest : (name : List ℕ) → OnlyAt place (Refused name) old new → (p : ℕ) (q : List ℕ) → (p ≡ place → q ≢ name) → IsAtRest ((old p).file q) → IsAtRest ((new p).file q)
  refused_rest name done p q other rest = pick (cases_eq p place) where
    pick : (p ≡ place) ⊎ (p ≢ place) → IsAtRest ((new p).file q)
    pick (inl is) = subst (λ (x : ℕ). IsAtRest ((new x).file q)) (sym is) (done.here.others q (other is) (subst (λ (x : ℕ). IsAtRest ((old x).file q)) is rest))
    pick (inr away) = subst (λ (d : DeviceState). IsAtRest (d.file q)) (sym (done.others p away)) rest

  pub alike_rest : OnlyAt place KeptAlike old new → (p : ℕ) (q : List ℕ) → IsAtRest ((old p).file q) → IsAtRest ((new p).file q)
  alike_rest done p q rest = pick (cases_eq p place) where
    pick : (p ≡ place) ⊎ (p ≢ place) → IsAtRest ((new p).file q)
    pick (inl is) = subst (λ (x : ℕ). IsAtRest ((new x).file q)) (sym is) (done.here.at_rest q (subst (λ (x : ℕ). IsAtRest ((old x).file q)) is rest))
    pick (inr away) = subst (λ (d : DeviceState). IsAtRest (d.file q)) (sym (done.others p away)) rest

-- ## A rank's own step that a device refused

module _ (first : Machine) (c : RunState) (programs : List (List Step)) (states after : ℕ → DeviceState) (events : List Event) (at : c.stage ≡ stage.Serving) (same : cells_of after ≡ cells_of states)
    (keeps : (p : ℕ) (q : List ℕ) → (p < c.shape.nodes → IsPending stage.Serving c q → ⊥) → IsAtRest ((states p).file q) → IsAtRest ((after p).file q)) where
  -- a run that serves goes on from what a refused call left
  pub still_leads : Leads first c programs states events → Leads first c programs after events
  still_leads leads =
      let h = led first c programs states events (ap is_up at) leads in
      let quiet : (p : ℕ) (q : List ℕ) → p ≤ 32 → (p < c.shape.nodes → IsPending stage.Serving c q → ⊥) → IsAtRest ((states p).file q) = subst (λ (s : RunStage). (p : ℕ) (q : List ℕ) → p ≤ 32 → (p < c.shape.nodes → IsPending s c q → ⊥) → IsAtRest ((states p).file q)) at h.quiet in
      let calm : (p : ℕ) (q : List ℕ) → p ≤ 32 → (p < c.shape.nodes → IsPending stage.Serving c q → ⊥) → IsAtRest ((after p).file q) = (λ p q low away. keeps p q away (quiet p q low away)) in
      leads_up first c programs after events (ap is_up at) (record {
        run = subst (λ (cells : Cells). RunsTo (setup_of c) first events (running (contents_of cells c) c)) (sym same) h.run;
        so_far = h.so_far;
        well = h.well;
        files = subst (λ (cells : Cells). FilesHold c cells) (sym same) h.files;
        quiet = subst (λ (s : RunStage). (p : ℕ) (q : List ℕ) → p ≤ 32 → (p < c.shape.nodes → IsPending s c q → ⊥) → IsAtRest ((after p).file q)) (sym at) calm;
        unrecorded = subst (λ (cells : Cells). NoRecordYet c.stage c cells) (sym same) h.unrecorded;
        working = work;
      }) where
        work : WorkIs c.stage c after
        work = subst (λ (s : RunStage). WorkIs s c after) (sym at) (at_work first c programs states events at leads)

  pub refused_told : (events' : List Event) (rank : ℕ) (seat : Seat) (call : Step) (r : Refusal) → IsNextLocal programs c rank call → local_verdict_of c rank call ≡ None → is_fault (reply.Refused r) ≡ true → may_fault_local call (reply.Refused r) ≡ true
      → slice_get c.ranks rank ≡ Some seat → events' ≡ events ++ event.Local rank (seat.number + 1) call (reply.Refused r) ∷ [] → Leads first c programs states events
      → Leads first (record c { ranks = slice_set c.ranks rank (stepped seat) }) programs after events'
  refused_told events' rank seat call r next clear fault may here more leads =
      let l = still_leads leads in
      let is : next.seat ≡ seat = same_seat c.ranks rank next.seat seat next.is here in
      let of_program = subst (λ (x : Seat). Rattle.ckpt_model.specs.Legal.is_step_of programs rank (x.number + 1) call) is next.of_program in
      tells_local first c programs after events events' rank seat call (reply.Refused r) at of_program l
      (faults_local c (contents_of (cells_of after) c) rank seat call r here (subst (λ (x : Seat). Rattle.round_core.specs.Seats.is_free x.doing ≡ true) is next.free) (subst (λ (x : Seat). x.ended ≡ false) is next.goes) (at_work first c programs states events at leads).0 next.local clear fault may) more
