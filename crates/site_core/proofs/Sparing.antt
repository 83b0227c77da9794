-- A turn that found no memory: the run goes on from where it was.
use Rattle.std.proofs.Common.{◌≡◌, ◌∙◌, ℕ, false, List, Result, Ok, Err, OnOk, OnErr, ap, ap₂, sym, subst}
use Rattle.scr_base.specs.declared.content.Step.{Step}
use Rattle.scr_base.specs.declared.shape.Shape.{Shape}
use Rattle.scr_base.specs.declared.shape.Config.{Config}
use Rattle.node_device.specs.DeviceState.{DeviceState, IsSound}
use Rattle.node_device.specs.Rack.{states_of}
use Rattle.ckpt_model.specs.Machine.{Machine, Setup}
use Rattle.ckpt_model.specs.declared.event.Event.{Event}
use Rattle.model_proper.specs.Fair.{IsFair}
use Rattle.site_state.specs.declared.run_state.RunState.{RunState}
use Rattle.site_core.specs.declared.site.Site.{Site}
use Rattle.site_calls.specs.Causes.{is_device_fault}
use Rattle.site_calls.specs.declared.trouble.Trouble.{Trouble}
use Rattle.site_calls.specs.declared.trouble.Trouble.TheVariants as error
use Rattle.site_core.specs.Holds.{Leads}
use Rattle.site_core.specs.Follows.{Follows, Keeps, KeepsRun, IsAsBefore, IsSameRun}

module _ {D : Type 0} (state : D → DeviceState) (old mid : Site D) (moves : ℕ) where
  -- the history leads to where it led
  spared_leads : (first : Machine) → IsAsBefore state old mid → Follows state first old → Follows state first mid
  spared_leads first s f =
      subst (λ (x : RunState). Leads first x mid.programs (states_of state mid.bay) mid.history.events) (sym s.core)
      (subst (λ (x : List (List Step)). Leads first old.core x (states_of state mid.bay) mid.history.events) (sym s.programs)
      (subst (λ (x : ℕ → DeviceState). Leads first old.core old.programs x mid.history.events) (sym s.devices)
      (subst (λ (x : List Event). Leads first old.core old.programs (states_of state old.bay) x) (sym s.events) f)))

  kept_leads : {T E P Q : Type 0} (r : Result T E) (first : Machine) → (P → Follows state first mid) → (Q → Follows state first mid) → OnOk r P → OnErr r Q → Follows state first mid
  kept_leads (Ok value) first f h k s = f k
  kept_leads (Err error) first f h k s = h s

  -- a turn keeps the run, whatever it answers
  pub keeps_run : {T E : Type 0} (r : Result T E) → ((d : D) → IsSound (state d)) → IsSameRun state old mid → OnOk r (Keeps state old mid) → OnErr r (IsAsBefore state old mid) → KeepsRun state old (record mid { moves = moves })
  keeps_run r sound fixed keeps spared first f = record {
    tells = λ p low. fixed.tells p ∙ f.tells p low;
    fair = subst (λ (s : Setup). IsFair s first) (sym (ap₂ (λ (shape : Shape) (config : Config). let s : Setup = record { shape = shape; config = config } in s) fixed.shape fixed.config)) f.fair;
    leads = kept_leads r first (λ k. k f.tells first (record { sound = sound; fair = f.fair }) f.leads) (λ s. spared_leads first s f.leads) keeps spared;
  }

-- a call that was refused without a fault, and what came behind it changed nothing
pub spared_by : {D T E : Type 0} (state : D → DeviceState) (old mid new : Site D) (r : Result T E) (trouble : Trouble) → OnErr r (new ≡ mid) → OnErr r (is_device_fault trouble ≡ false) → mid.core ≡ old.core → mid.programs ≡ old.programs → mid.history.events ≡ old.history.events → mid.moves ≡ old.moves
    → (is_device_fault trouble ≡ false → states_of state mid.bay ≡ states_of state old.bay) → OnErr r (IsAsBefore state old new)
spared_by state old mid new (Ok value) trouble same calm core programs events moves devices = tt
spared_by state old mid new (Err error) trouble same calm core programs events moves devices = record {
  core = ap (λ (s : Site _). s.core) same ∙ core;
  programs = ap (λ (s : Site _). s.programs) same ∙ programs;
  events = ap (λ (s : Site _). s.history.events) same ∙ events;
  moves = ap (λ (s : Site _). s.moves) same ∙ moves;
  devices = ap (λ (s : Site _). states_of state s.bay) same ∙ devices calm;
}

-- want of memory is no fault
pub memory_is_calm : {T E : Type 0} (r : Result T E) (trouble : Trouble) → OnErr r (trouble ≡ error.Memory) → OnErr r (is_device_fault trouble ≡ false)
memory_is_calm (Ok value) trouble is = tt
memory_is_calm (Err e) trouble is = ap is_device_fault is

-- what came behind calls that changed nothing
pub spared_behind : {D T E : Type 0} (state : D → DeviceState) (old mid new : Site D) (r : Result T E) → OnErr r (IsAsBefore state mid new) → mid.core ≡ old.core → mid.programs ≡ old.programs → mid.history.events ≡ old.history.events → mid.moves ≡ old.moves
    → states_of state mid.bay ≡ states_of state old.bay → OnErr r (IsAsBefore state old new)
spared_behind state old mid new (Ok value) spared core programs events moves devices = tt
spared_behind state old mid new (Err error) spared core programs events moves devices = record {
  core = spared.core ∙ core;
  programs = spared.programs ∙ programs;
  events = spared.events ∙ events;
  moves = spared.moves ∙ moves;
  devices = spared.devices ∙ devices;
}
