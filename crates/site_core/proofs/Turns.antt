-- What a turn told.
use Rattle.std.proofs.Common.{◌≡◌, ◌⊎◌, inl, refl, sym, subst, true, false, Option, None, Some, slice_get, Result, Ok, Err, IfOk, ap, ◌∙◌, inr, ℕ, List, [], ◌∷◌, ◌++◌, arith}
use Rattle.node_device.specs.DeviceState.{DeviceState, IsSound}
use Rattle.ckpt_model.specs.declared.event.Event.{Event}
use Rattle.scr_base.specs.declared.answers.Refusal.{Refusal}
use Rattle.scr_base.specs.declared.answers.Refusal.TheVariants as refusal
use Rattle.scr_base.specs.declared.answers.Reply.{Reply}
use Rattle.scr_base.specs.declared.answers.Reply.TheVariants as reply
use Rattle.ckpt_model.specs.Answers.{is_fault}
use Rattle.ckpt_model.specs.declared.event.Event.TheVariants as event
use Rattle.site_calls.specs.declared.trouble.Trouble.{Trouble}
use Rattle.site_calls.specs.Causes.{CallCause}
use Rattle.site_calls.specs.Causes.{is_device_fault}
use Rattle.site_core.specs.Causes.{cause_of, is_told}
use Rattle.site_core.proofs.Refusals.{ended_by, ended_for}
use Rattle.scr_base.specs.declared.content.Step.{Step}
use Rattle.node_device.specs.Rack.{Rack, states_of}
use Rattle.ckpt_model.specs.Machine.{Machine}
use Rattle.site_calls.specs.Numbers.{Way}
use Rattle.site_state.specs.declared.run_state.RunState.{RunState}
use Rattle.site_state.specs.declared.run_state.RunStage.TheVariants as stage
use Rattle.site_state.specs.declared.run_state.SaveStep.{SaveStep}
use Rattle.site_core.specs.Holds.{Leads}
use Rattle.site_core.proofs.Cuts.{cut_early, cut_looking, cut_saving, told_ends}
use Rattle.site_core.proofs.Closing.{IsLawful, over_core}
use Rattle.site_calls.proofs.Sounds.{sound_of}
use Rattle.site_core.proofs.Works.{saves_now, saved_is}
use Rattle.scr_base.specs.declared.shape.DataId.{DataId}
use Rattle.member_store.specs.Names.{record_name}
use Rattle.site_state.specs.Cores.{saved_in}
use Rattle.site_state.specs.declared.run_state.SaveStep.TheVariants as work
use Rattle.node_device.specs.Rack.{OnlyAt}
use Rattle.site_state.specs.declared.cache.Manifest.{Manifest}
use Rattle.site_calls.specs.Calls.{KeptAlike, Unturned, Unnumbered}
use Rattle.site_core.specs.Holds.{IsSaving}
use Rattle.site_state.specs.Shown.{running}
use Rattle.site_core.specs.Stored.{cells_of, contents_of}
use Rattle.site_state.specs.Waiting.{is_over}
use Rattle.std.specs.Prelude.{IsTrue}
use Rattle.ckpt_model.specs.declared.event.StopCause.{StopCause}
use Rattle.ckpt_model.specs.Moves.{may}
use Rattle.ckpt_model.specs.Stops.{may_make}
use Rattle.site_calls.specs.declared.trouble.Trouble.TheVariants as error
use Rattle.site_state.specs.Cores.{sealed_core}
use Rattle.site_core.specs.Left.{LeavesKept}
use Rattle.site_state.specs.Shown.{setup_of}
use Rattle.site_state.proofs.Gates.{both}
use Rattle.site_core.proofs.SaveEnds.{seal_told}
use Rattle.site_state.proofs.Seals.{sealing}
use Rattle.site_core.proofs.Works.{opened_is}
use Rattle.site_core.proofs.Numbering.{storing_at}
use Rattle.site_core.proofs.LeftStages.{IsLeft, Remains, remains, stage_left, left_unnumbered, left_alike, whole_refused, sealed_refused, loose_left, loose_of}
use Rattle.site_state.specs.declared.turn.Turn.{Turn}
use Rattle.site_state.specs.declared.turn.Turn.TheVariants as turn
use Rattle.site_state.specs.declared.error.SiteError.{SiteError}
use Rattle.site_core.specs.declared.site.Site.{Site}
use Rattle.site_core.specs.Follows.{Each, Stays, Tells, carried, IsCaused, IsCarried, IsRefusedFor, IsEndedFor, IsOfWorker, Follows, Keeps}

pub tells_one : {D : Type 0} (who : Event → Type 0) (may : ℕ → List ℕ → ℕ → ℕ → Type 0) (state : D → DeviceState) (old new : Site D) (e : Event) → new.history.events ≡ old.history.events ++ e ∷ [] → who e → IsCaused may (states_of state old.bay) (states_of state new.bay) (carried old.core) e → Tells who may state old new
tells_one who may state old new e is own caused = record { told = e ∷ []; few = omega arith; is = is; own = (own, tt); caused = (caused, tt) }

-- a turn that moved may have changed all
pub moved_stays : {D : Type 0} (old new : Site D) (r : Result Turn SiteError) → IfOk r (λ (t : Turn). t ≡ turn.Moved) → IfOk r (λ (t : Turn). Stays t old new)
moved_stays old new (Ok t) is = subst (λ (x : Turn). Stays x old new) (sym is) tt
moved_stays old new (Err e) is = tt

-- what was told after a call that changed nothing
pub told_across : {D : Type 0} (who : Event → Type 0) (may : ℕ → List ℕ → ℕ → ℕ → Type 0) (state : D → DeviceState) (old mid new : Site D) → mid.history.events ≡ old.history.events → carried mid.core ≡ carried old.core → states_of state mid.bay ≡ states_of state old.bay → Tells who may state mid new → Tells who may state old new
told_across who may state old mid new events carries same t = record {
  told = t.told;
  few = t.few;
  is = t.is ∙ ap (λ (es : List Event). es ++ t.told) events;
  own = t.own;
  caused = subst (λ (st : ℕ → DeviceState). Each (IsCaused may st (states_of state new.bay) (carried old.core)) t.told) same
      (subst (λ (o : Option Refusal). Each (IsCaused may (states_of state mid.bay) (states_of state new.bay) o) t.told) carries t.caused);
}

-- an answer that is no fault needs no cause
pub calm_carried : (carried : Option Refusal) (a : Reply) → is_fault a ≡ false → IsCarried carried a
calm_carried carried (reply.Refused (refusal.Device node count)) e = absurd (cc e)
calm_carried carried (reply.Refused (refusal.Full node used capacity)) e = absurd (cc e)
calm_carried carried (reply.Refused (refusal.Mismatch rank)) e = tt
calm_carried carried (reply.Refused (refusal.Phase phase)) e = tt
calm_carried carried (reply.Refused refusal.BadName) e = tt
calm_carried carried (reply.Refused refusal.NoFile) e = tt
calm_carried carried (reply.Refused refusal.Limit) e = tt
calm_carried carried (reply.Refused (refusal.NameTaken which)) e = tt
calm_carried carried _ e = tt

pub calm_refused : (may : ℕ → List ℕ → ℕ → ℕ → Type 0) (old new : ℕ → DeviceState) (a : Reply) → is_fault a ≡ false → IsRefusedFor may old new a
calm_refused may old new (reply.Refused (refusal.Device node count)) e = absurd (cc e)
calm_refused may old new (reply.Refused (refusal.Full node used capacity)) e = absurd (cc e)
calm_refused may old new (reply.Refused (refusal.Mismatch rank)) e = tt
calm_refused may old new (reply.Refused (refusal.Phase phase)) e = tt
calm_refused may old new (reply.Refused refusal.BadName) e = tt
calm_refused may old new (reply.Refused refusal.NoFile) e = tt
calm_refused may old new (reply.Refused refusal.Limit) e = tt
calm_refused may old new (reply.Refused (refusal.NameTaken which)) e = tt
calm_refused may old new _ e = tt

-- ## The end of a run that a refused call brought

-- what reads of sound devices give may be left
pub lawful : {D : Type 0} (state : D → DeviceState) → ((d : D) → IsSound (state d)) → (bay : Rack D) → IsLawful (states_of state bay)
lawful state sound bay p q = (sound_of state sound bay p).now_allowed q

module _ {D : Type 0} (state : D → DeviceState) (old new : Site D) (t : Trouble) (is : new.history.events ≡ old.history.events ++ event.Stop (cause_of t) ∷ []) where
  pub tells_end : (T : Type 0) (may : ℕ → List ℕ → ℕ → ℕ → Type 0) (bay : Rack D) → new.bay ≡ bay → is_told t ≡ true → CallCause {T = T} may (states_of state old.bay) (states_of state bay) (Err t) → Tells IsOfWorker may state old new
  tells_end T may bay same told why = tells_one IsOfWorker may state old new (event.Stop (cause_of t)) is (ended_by t told)
      (subst (λ (b : Rack D). IsEndedFor may (states_of state old.bay) (states_of state b) (cause_of t)) (sym same) (ended_for T may (states_of state old.bay) (states_of state bay) t why))

  -- what is left after a read or a sync that was refused
  alike_left : (first : Machine) (place : ℕ) (bay : Rack D) → new.bay ≡ bay → OnlyAt place KeptAlike (states_of state old.bay) (states_of state bay) → is_over old.core.stage ≡ false → (f : Follows state first old) → IsLeft old.core (states_of state new.bay) f.state
  alike_left first place bay same done on f = subst (λ (b : Rack D). IsLeft old.core (states_of state b) f.state) (sym same)
      (left_alike old.core place (states_of state old.bay) (states_of state bay) f.state done (stage_left old.core.stage old.core (states_of state old.bay) f.state refl on f.holds))

  goes_on : (old.core.stage ≡ stage.Begun) ⊎ (old.core.stage ≡ stage.Storing) → is_over old.core.stage ≡ false
  goes_on (inl at) = ap is_over at
  goes_on (inr at) = ap is_over at

  module _ (core : new.core ≡ over_core old.core) (programs : new.programs ≡ old.programs) where
    pub leads_so : (first : Machine) → Leads first (over_core old.core) old.programs (states_of state new.bay) new.history.events → Follows state first new
    leads_so first l = subst (λ (x : RunState). Leads first x new.programs (states_of state new.bay) new.history.events) (sym core) (subst (λ (ps : List (List Step)). Leads first (over_core old.core) ps (states_of state new.bay) new.history.events) (sym programs) l)

    pub ends_early : (old.core.stage ≡ stage.Begun) ⊎ (old.core.stage ≡ stage.Storing) → is_told t ≡ true → (bay : Rack D) → new.bay ≡ bay → OnlyAt 32 KeptAlike (states_of state old.bay) (states_of state bay) → Keeps state old new
    ends_early at told bay same done tells first base f =
        leads_so first (cut_early first old.core old.programs (states_of state old.bay) (states_of state new.bay) old.history.events new.history.events (cause_of t) (lawful state base.sound new.bay) base.fair at (told_ends t told) is f (alike_left first 32 bay same done (goes_on at) f))

    pub ends_looking : old.core.stage ≡ stage.Looking → is_told t ≡ true → (place : ℕ) (bay : Rack D) → new.bay ≡ bay → OnlyAt place KeptAlike (states_of state old.bay) (states_of state bay) → Keeps state old new
    ends_looking at told place bay same done tells first base f =
        leads_so first (cut_looking first old.core old.programs (states_of state old.bay) (states_of state new.bay) old.history.events new.history.events (cause_of t) (lawful state base.sound new.bay) base.fair at (told_ends t told) is f (alike_left first place bay same done (ap is_over at) f))

    -- what is left of a run that saves a dataset, whichever that is
    abbrev pub SavingLeft : SaveStep → ℕ → Rack D → Type 0
    SavingLeft w n bay = (first : Machine) (m : Manifest) → IsSaving first old.core old.programs (states_of state old.bay) old.history.events w n m → Remains old.core (states_of state bay) (running (contents_of (cells_of (states_of state old.bay)) old.core) old.core) (cause_of t)

    pub ends_saving : (w : SaveStep) (n : ℕ) → old.core.stage ≡ stage.Saving w n → is_device_fault t ≡ true → (bay : Rack D) → new.bay ≡ bay → SavingLeft w n bay → Keeps state old new
    ends_saving w n at fault bay same left tells first base f =
        let h = saves_now first old.core old.programs (states_of state old.bay) old.history.events w n at f in
        leads_so first (cut_saving first old.core old.programs (states_of state old.bay) (states_of state new.bay) old.history.events new.history.events t w n h.0 (lawful state base.sound new.bay) base.fair h.1 fault is
        (subst (λ (b : Rack D). Remains old.core (states_of state b) (running (contents_of (cells_of (states_of state old.bay)) old.core) old.core) (cause_of t)) (sym same) (left first h.0 h.1)))

  -- the number's way may have changed with it
  pub ends_storing : (w : Way) → new.core ≡ (let x : RunState = record old.core { stage = stage.Over; storing = w } in x) → new.programs ≡ old.programs → old.core.stage ≡ stage.Storing → is_told t ≡ true
      → (bay : Rack D) → new.bay ≡ bay → OnlyAt 32 (Unnumbered old.core.storing.want old.core.storing.changes) (states_of state old.bay) (states_of state bay) → Keeps state old new
  ends_storing w core programs at told bay same done tells first base f =
      let l = cut_early first old.core old.programs (states_of state old.bay) (states_of state new.bay) old.history.events new.history.events (cause_of t) (lawful state base.sound new.bay) base.fair (inr at) (told_ends t told) is f (subst (λ (b : Rack D). IsLeft old.core (states_of state b) f.state) (sym same)
      (left_unnumbered old.core (states_of state old.bay) (states_of state bay) f.state at (storing_at old.core.stage old.core (states_of state old.bay) f.state at f.holds) (done.here.only.tells ∙ tells 32 (omega arith)) done)) in
      let m : Leads first (let x : RunState = record old.core { stage = stage.Over; storing = w } in x) old.programs (states_of state new.bay) new.history.events = record { state = l.state; run = l.run; holds = tt; told = tt; closes = l.closes } in
      subst (λ (x : RunState). Leads first x new.programs (states_of state new.bay) new.history.events) (sym core)
      (subst (λ (ps : List (List Step)). Leads first (let x : RunState = record old.core { stage = stage.Over; storing = w } in x) ps (states_of state new.bay) new.history.events) (sym programs) m)

-- ## What is left of a run that saves a dataset

module _ {D : Type 0} (state : D → DeviceState) (old : Site D) (n place : ℕ) (bay : Rack D) where
  abbrev before : Machine
  before = running (contents_of (cells_of (states_of state old.bay)) old.core) old.core

  -- a sync was refused
  pub synced_left : (w : SaveStep) (why : StopCause) → OnlyAt place KeptAlike (states_of state old.bay) (states_of state bay) → (first : Machine) (m : Manifest) → IsSaving first old.core old.programs (states_of state old.bay) old.history.events w n m → Remains old.core (states_of state bay) before why
  synced_left w why done first m h = remains old.core (states_of state bay) before why (left_alike old.core place (states_of state old.bay) (states_of state bay) before done
      (loose_left w n old.core m (states_of state old.bay) (loose_of first old.core old.programs (states_of state old.bay) old.history.events w n m h)))

  -- a gate `whole` was
  pub whole_left : (which : DataId) (why : StopCause) → slice_get old.core.places n ≡ Some place → Some which ≡ saved_in old.core.opened old.core.kept → OnlyAt place (Unturned (record_name which n) 0) (states_of state old.bay) (states_of state bay)
      → (first : Machine) (m : Manifest) → IsSaving first old.core old.programs (states_of state old.bay) old.history.events work.Whole n m → Remains old.core (states_of state bay) before why
  whole_left which why home is done first m h =
      let same = saved_is first old.core old.programs (states_of state old.bay) old.history.events work.Whole n m which h is in
      remains old.core (states_of state bay) before why (whole_refused first old.core old.programs (states_of state old.bay) (states_of state bay) old.history.events n m h place home
      (subst (λ (w : DataId). OnlyAt place (Unturned (record_name w n) 0) (states_of state old.bay) (states_of state bay)) same done))

  -- a gate `sealed` was, of a dataset that is in cache already
  pub sealed_left : (which : DataId) (why : StopCause) → old.core.opened ≡ None → slice_get old.core.places n ≡ Some place → Some which ≡ saved_in old.core.opened old.core.kept → OnlyAt place (Unturned (record_name which n) 1) (states_of state old.bay) (states_of state bay)
      → (first : Machine) (m : Manifest) → IsSaving first old.core old.programs (states_of state old.bay) old.history.events work.Sealed n m → Remains old.core (states_of state bay) before why
  sealed_left which why closed home is done first m h =
      let same = saved_is first old.core old.programs (states_of state old.bay) old.history.events work.Sealed n m which h is in
      remains old.core (states_of state bay) before why (sealed_refused first old.core old.programs (states_of state old.bay) (states_of state bay) old.history.events n m closed h place home
      (subst (λ (w : DataId). OnlyAt place (Unturned (record_name w n) 1) (states_of state old.bay) (states_of state bay)) same done))

  -- the first gate `sealed` was: it may be open all the same, and then the dataset is in cache
  pub sealing_left : (m : Manifest) (t : Trouble) → is_device_fault t ≡ true → old.core.opened ≡ Some m → slice_get old.core.places n ≡ Some place → OnlyAt place (Unturned (record_name m.desc.which n) 1) (states_of state old.bay) (states_of state bay)
      → (first : Machine) (x : Manifest) → IsSaving first old.core old.programs (states_of state old.bay) old.history.events work.Sealed n x → Remains old.core (states_of state bay) before (cause_of t)
  sealing_left m t fault opened home done first x saving =
      let c = old.core in
      let states = states_of state old.bay in
      let bytes = contents_of (cells_of states) c in
      let e = event.Sealing m.desc.which in
      let same : m ≡ x = opened_is first c old.programs states old.history.events work.Sealed n x m saving opened in
      let h = subst (λ (y : Manifest). IsSaving first c old.programs states old.history.events work.Sealed n y) (sym same) saving in
      let l = sealed_refused first (sealed_core c m) old.programs states (states_of state bay) (old.history.events ++ e ∷ []) n m refl (seal_told first c old.programs states old.history.events (old.history.events ++ e ∷ []) work.Sealed n m h refl opened refl) place home done in
      let step = sealing c bytes h.saves.round.valid m h.saves.round.complete h.saves.round.first h.saves.round.clear h.saves.round.all opened (h.well.opened_last m opened) in
      record {
        made = e ∷ [];
        may = may_seal_first t fault step.0;
        same_run = ap (λ (y : Machine). y.run) (sym step.1);
        leaves = subst (λ (y : Machine). LeavesKept (setup_of c) c.places (states_of state bay) y) step.1 l.leaves;
        prefix = λ left out. let p = l.prefix left out in record { stored = p.stored; may = p.may; run = p.run; halt = p.halt };
        later = l.later;
        plain = record { mark = refl; pending = refl };
        unindexed = l.unindexed;
      } where
        may_seal_first : (t : Trouble) → is_device_fault t ≡ true → IsTrue (may (setup_of old.core) before (event.Sealing m.desc.which)) → IsTrue (may_make (setup_of old.core) before (cause_of t) (event.Sealing m.desc.which ∷ []))
        may_seal_first error.Memory f is = absurd (cc f)
        may_seal_first (error.Full node used capacity) f is = absurd (cc f)
        may_seal_first (error.Fault node count) f is = both _ _ is refl
