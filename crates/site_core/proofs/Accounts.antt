-- What becomes of the faults that a turn meets.
use Rattle.std.proofs.Common.{append-nil, arith, ◌≡◌, ◌⊎◌, inl, inr, ℕ, List, [], ◌∷◌, ◌++◌, Some, None, Err, true, refl, sym, ap, ◌∙◌, subst}
use Rattle.scr_base.specs.declared.actor.Actor.{Actor}
use Rattle.scr_base.specs.declared.actor.Actor.TheVariants as actor
use Rattle.scr_base.specs.declared.answers.Refusal.{Refusal}
use Rattle.scr_base.specs.declared.answers.Refusal.TheVariants as refusal
use Rattle.scr_base.specs.declared.answers.Reply.TheVariants as reply
use Rattle.scr_base.specs.declared.content.Step.{Step}
use Rattle.node_device.specs.DeviceState.{DeviceState}
use Rattle.node_device.specs.Rack.{Rack, states_of}
use Rattle.ckpt_model.specs.Track.{Track}
use Rattle.ckpt_model.specs.declared.event.Event.{Event}
use Rattle.ckpt_model.specs.declared.event.Event.TheVariants as event
use Rattle.site_state.specs.declared.run_state.RunState.{RunState}
use Rattle.site_state.specs.declared.run_state.RunStage.{RunStage}
use Rattle.site_state.specs.declared.run_state.RunStage.TheVariants as stage
use Rattle.site_calls.specs.declared.trouble.Trouble.{Trouble}
use Rattle.site_calls.specs.declared.trouble.Trouble.TheVariants as error
use Rattle.site_core.specs.declared.site.Site.{Site}
use Rattle.ckpt_model.specs.declared.event.StopCause.TheVariants as stops
use Rattle.site_calls.specs.Causes.{CallCause, IsCalm, told_trouble}
use Rattle.site_core.specs.Causes.{is_told, cause_of}
use Rattle.site_core.specs.Follows.{carried, carried_at, CarriesNoMore, Tells, TellsFault, TellsFaults, TellsOrCarries, AccountsBy}

-- ## What a round carries

pub carries_same : (old new : RunState) → carried new ≡ carried old → CarriesNoMore old new
carries_same old new same r is = sym same ∙ is

-- at this stage nothing is carried
pub none_at : (s : RunStage) (c : RunState) → carried_at s c.refusal ≡ None → c.stage ≡ s → carried c ≡ None
none_at s c none at = ap (λ (x : RunStage). carried_at x c.refusal) at ∙ none

-- a run that was cut carries none
pub carries_none : (old new : RunState) → new ≡ (let x : RunState = record old { stage = stage.Over } in x) → CarriesNoMore old new
carries_none old new is r carries = absurd (cc (carries, ap carried is))

-- ## A turn

-- no device was called
pub untouched : {D : Type 0} {state : D → DeviceState} {old new : Site D} → new.bay ≡ old.bay → carried new.core ≡ carried old.core → TellsFaults state old new
untouched {D} {state} {old} {new} same carries = record {
  faults = inl (λ p. ap (λ (b : Rack D). (states_of state b p).faults) same);
  carries = carries_same old.core new.core carries;
}

-- a call went well
pub well_then : {D : Type 0} {state : D → DeviceState} {old new : Site D} (bay : Rack D) → new.bay ≡ bay → IsCalm (states_of state old.bay) (states_of state bay) → CarriesNoMore old.core new.core → TellsFaults state old new
well_then {D} {state} {old} bay same calm carries = record { faults = inl (subst (λ (b : Rack D). IsCalm (states_of state old.bay) (states_of state b)) (sym same) calm); carries = carries }

-- a call was refused, and a rank's step is told so
module _ {D : Type 0} (state : D → DeviceState) (old new : Site D) (bay : Rack D) (same : new.bay ≡ bay) (T : Type 0) (may : ℕ → List ℕ → ℕ → ℕ → Type 0) where
  caused : (t : Trouble) → CallCause {T = T} may (states_of state old.bay) (states_of state bay) (Err t) → CallCause {T = T} may (states_of state old.bay) (states_of state new.bay) (Err t)
  caused t why = subst (λ (b : Rack D). CallCause {T = T} may (states_of state old.bay) (states_of state b) (Err t)) (sym same) why

  same_refusal : (x y : Refusal) → Some x ≡ Some y → reply.Refused y ≡ reply.Refused x
  same_refusal x y e = cc

  step_told : (t : Trouble) (r : Refusal) (rank number : ℕ) (call : Step) → told_trouble t ≡ Some r → CallCause {T = T} may (states_of state old.bay) (states_of state new.bay) (Err t) → new.history.events ≡ old.history.events ++ event.Local rank number call (reply.Refused r) ∷ []
      → IsCalm (states_of state old.bay) (states_of state new.bay) ⊎ TellsFault (states_of state old.bay) (states_of state new.bay) old.history.events new.history.events
  step_told error.Memory r rank number call told why is = inl why
  step_told (error.Fault node count) r rank number call told why is = inr (record { node = node; count = count; fault = why; told = event.Local rank number call (reply.Refused r); is = is; tells = same_refusal (refusal.Device node count) r told })
  step_told (error.Full node used capacity) r rank number call told why is = inl why.calm

  pub refusal_told : (t : Trouble) (r : Refusal) (rank number : ℕ) (call : Step) → told_trouble t ≡ Some r → CallCause {T = T} may (states_of state old.bay) (states_of state bay) (Err t) → new.history.events ≡ old.history.events ++ event.Local rank number call (reply.Refused r) ∷ []
      → CarriesNoMore old.core new.core → TellsFaults state old new
  refusal_told t r rank number call told why is carries = record { faults = step_told t r rank number call told (caused t why) is; carries = carries }

-- a call that changed nothing came before
pub across : {D : Type 0} (state : D → DeviceState) (old mid new : Site D) → mid.history.events ≡ old.history.events → mid.core ≡ old.core → states_of state mid.bay ≡ states_of state old.bay → TellsFaults state mid new → TellsFaults state old new
across state old mid new events core same t = record {
  faults = subst (λ (st : ℕ → DeviceState). IsCalm st (states_of state new.bay) ⊎ TellsFault st (states_of state new.bay) old.history.events new.history.events) same
      (subst (λ (es : List Event). IsCalm (states_of state mid.bay) (states_of state new.bay) ⊎ TellsFault (states_of state mid.bay) (states_of state new.bay) es new.history.events) events t.faults);
  carries = subst (λ (c : RunState). CarriesNoMore c new.core) core t.carries;
}

-- the run was ended by a call that was refused
pub end_told : {D : Type 0} (state : D → DeviceState) (old new : Site D) (bay : Rack D) → new.bay ≡ bay → (T : Type 0) (may : ℕ → List ℕ → ℕ → ℕ → Type 0) (t : Trouble) → is_told t ≡ true → CallCause {T = T} may (states_of state old.bay) (states_of state bay) (Err t) → new.history.events ≡ old.history.events ++ event.Stop (cause_of t) ∷ []
    → CarriesNoMore old.core new.core → TellsFaults state old new
end_told state old new bay same T may t told why is carries = record { faults = pick t told (caused state old new bay same T may t why) is; carries = carries } where
  pick : (t : Trouble) → is_told t ≡ true → CallCause {T = T} may (states_of state old.bay) (states_of state new.bay) (Err t) → new.history.events ≡ old.history.events ++ event.Stop (cause_of t) ∷ [] → IsCalm (states_of state old.bay) (states_of state new.bay) ⊎ TellsFault (states_of state old.bay) (states_of state new.bay) old.history.events new.history.events
  pick error.Memory told why is = absurd (cc told)
  pick (error.Fault node count) told why is = inr (record { node = node; count = count; fault = why; told = event.Stop (stops.Device node count); is = is; tells = refl })
  pick (error.Full node used capacity) told why is = inl why.calm

-- ## Any actor's turn

module _ {D : Type 0} (state : D → DeviceState) (old new : Site D) (moves : ℕ) where
  counted : TellsFaults state old new → TellsFaults state old (record new { moves = moves })
  counted t = record { faults = t.faults; carries = t.carries }

  counted_up : TellsOrCarries state old new → TellsOrCarries state old (record new { moves = moves })
  counted_up (inl t) = inl (counted t)
  counted_up (inr t) = inr (record { refusal = t.refusal; none = t.none; now = t.now; of_device = t.of_device; untold = t.untold; cause = t.cause })

  -- the count of moves says nothing of faults
  pub accounted : (who : Actor) → AccountsBy who state old new → AccountsBy who state old (record new { moves = moves })
  accounted actor.Recoverer t = counted t
  accounted (actor.Rank rank) t = counted t
  accounted actor.Encoder t = counted_up t
  accounted actor.Flusher t = counted t
  accounted actor.Evictor t = counted t

-- where the call found no memory, all counts are as before
pub memory_calm : {D : Type 0} (state : D → DeviceState) (old new : Site D) (bay : Rack D) → new.bay ≡ bay → (T : Type 0) (may : ℕ → List ℕ → ℕ → ℕ → Type 0) (t : Trouble) → CallCause {T = T} may (states_of state old.bay) (states_of state bay) (Err t) → t ≡ error.Memory
    → IsCalm (states_of state old.bay) (states_of state new.bay)
memory_calm {D} state old new bay same T may t why memory =
    subst (λ (b : Rack D). IsCalm (states_of state old.bay) (states_of state b)) (sym same) (subst (λ (x : Trouble). CallCause {T = T} may (states_of state old.bay) (states_of state bay) (Err x)) memory why)

-- a turn that leaves the history tells nothing
pub tells_nothing : {D : Type 0} (who : Event → Type 0) (may : ℕ → List ℕ → ℕ → ℕ → Type 0) (state : D → DeviceState) (old new : Site D) → new.history ≡ old.history → Tells who may state old new
tells_nothing who may state old new same = record { told = []; few = omega arith; is = ap (λ (t : Track). t.events) same ∙ sym (append-nil old.history.events); own = tt; caused = tt }
