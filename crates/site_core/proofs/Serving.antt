-- A rank calls, a round is decided, and a rank takes its reply, over the devices as they are.
use Rattle.std.proofs.Common.{◌≡◌, ◌≢◌, ℕ, true, false, List, [], ◌∷◌, ◌++◌, length, map, Option, Some, None, refl, sym, ap, ◌∙◌, subst, slice_get, slice_set, IfSome}
use Rattle.std.specs.Prelude.{IsSomeAnd}
use Rattle.std.specs.List.{list_any}
use Rattle.std.proofs.lemmas.List.{length-map, length-set}
use Rattle.scr_base.specs.declared.content.Step.{Step}
use Rattle.scr_base.specs.declared.answers.Phase.{Phase}
use Rattle.scr_base.specs.declared.answers.Phase.TheVariants as phase
use Rattle.scr_base.specs.declared.answers.Reply.{Reply}
use Rattle.scr_base.specs.declared.shape.DataId.{DataId}
use Rattle.node_device.specs.DeviceState.{DeviceState}
use Rattle.ckpt_model.specs.declared.event.Event.{Event}
use Rattle.ckpt_model.specs.declared.event.Event.TheVariants as event
use Rattle.ckpt_model.specs.declared.event.Kind.{Kind}
use Rattle.ckpt_model.specs.Machine.{Machine}
use Rattle.ckpt_model.specs.Runs.{StepsTo}
use Rattle.round_core.specs.declared.seat.Seat.{Seat}
use Rattle.round_core.specs.declared.seat.Doing.TheVariants as doing
use Rattle.round_core.specs.Seats.{called, freed, owed, next_number}
use Rattle.site_state.specs.declared.cache.Manifest.{Manifest}
use Rattle.site_state.specs.declared.run_state.RunState.{RunState}
use Rattle.site_state.specs.declared.run_state.RunStage.{RunStage}
use Rattle.site_state.specs.declared.run_state.RunStage.TheVariants as stage
use Rattle.site_state.specs.Shown.{running, setup_of, mends, served, decided}
use Rattle.site_state.specs.Choosing.{seals}
use Rattle.site_core.specs.Stored.{cells_of, contents_of}
use Rattle.site_core.specs.Holds.{Leads, WorkIs}
use Rattle.site_state.specs.Asked.{IsClearRound}
use Rattle.site_state.specs.Steps.{IsNextCall}
use Rattle.site_core.proofs.Told.{is_up, led, serves, turns}
use Rattle.site_state.proofs.Gates.{calls, replies}
use Rattle.site_state.proofs.Serving.{clear_allowed, is_resting, not_output}

-- no dataset that serves is to be mended or sealed
pub at_work : (first : Machine) (c : RunState) (programs : List (List Step)) (states : ℕ → DeviceState) (events : List Event) → c.stage ≡ stage.Serving → Leads first c programs states events → (list_any mends c.kept ≡ false) × (list_any seals c.kept ≡ false)
at_work first c programs states events at leads =
    let h = led first c programs states events (ap is_up at) leads in
    let working : WorkIs stage.Serving c states = subst (λ (s : RunStage). WorkIs s c states) at h.working in
    working

pub replied : (first : Machine) (c : RunState) (programs : List (List Step)) (states : ℕ → DeviceState) (events events' : List Event) (rank : ℕ) (seat : Seat) (answer : Reply) (ranks : List Seat) → c.stage ≡ stage.Serving
    → slice_get c.ranks rank ≡ Some seat → IsSomeAnd (slice_get c.ranks rank) (λ x. (x.doing ≡ doing.Owed answer) × (ranks ≡ slice_set c.ranks rank (freed x)))
    → events' ≡ events ++ event.Reply rank seat.number answer ∷ [] → Leads first c programs states events → Leads first (record c { ranks = ranks }) programs states events'
replied first c programs states events events' rank seat answer ranks at is owes more leads =
    let o = subst (λ (x : Option Seat). IsSomeAnd x (λ y. (y.doing ≡ doing.Owed answer) × (ranks ≡ slice_set c.ranks rank (freed y)))) is owes in
    let bytes = contents_of (cells_of states) c in
    serves first c programs states events events' (event.Reply rank seat.number answer) c.phase c.offer ranks at (ap length o.1 ∙ length-set c.ranks rank (freed seat)) (led first c programs states events (ap is_up at) leads).well.output (led first c programs states events (ap is_up at) leads)
    (subst (λ (rs : List Seat). StepsTo (setup_of c) (running bytes c) (event.Reply rank seat.number answer) (running bytes (served c c.phase c.offer rs))) (sym o.1) (replies c bytes rank seat answer is o.0))
    tt refl more

pub called_on : (first : Machine) (c : RunState) (programs : List (List Step)) (states : ℕ → DeviceState) (events events' : List Event) (rank : ℕ) (call : Step) (ranks : List Seat) → c.stage ≡ stage.Serving
    → (next : IsNextCall programs c rank call) → IfSome (slice_get c.ranks rank) (λ x. ranks ≡ slice_set c.ranks rank (called call x))
    → events' ≡ events ++ event.Call rank (next_number next.seat) call ∷ [] → Leads first c programs states events → Leads first (record c { ranks = ranks }) programs states events'
called_on first c programs states events events' rank call ranks at next arrived more leads =
    let o = subst (λ (x : Option Seat). IfSome x (λ y. ranks ≡ slice_set c.ranks rank (called call y))) next.is arrived in
    let bytes = contents_of (cells_of states) c in
    serves first c programs states events events' (event.Call rank (next_number next.seat) call) c.phase c.offer ranks at (ap length o ∙ length-set c.ranks rank (called call next.seat)) (led first c programs states events (ap is_up at) leads).well.output (led first c programs states events (ap is_up at) leads)
    (subst (λ (rs : List Seat). StepsTo (setup_of c) (running bytes c) (event.Call rank (next_number next.seat) call) (running bytes (served c c.phase c.offer rs))) (sym o)
    (calls c bytes rank next.seat call next.is next.free (at_work first c programs states events at leads).0 next.collective next.again))
    next.of_program refl more

pub decided_on : (first : Machine) (c : RunState) (programs : List (List Step)) (states : ℕ → DeviceState) (events events' : List Event) (kind : Kind) (answer : Reply) (p : Phase) (o : Option DataId) (needs : ℕ) (ranks : List Seat) → c.stage ≡ stage.Serving → ((m : Manifest) → c.opened ≡ Some m → p ≡ phase.Output)
    → StepsTo (setup_of c) (running (contents_of (cells_of states) c) c) (event.Decided kind answer) (running (contents_of (cells_of states) c) (decided c p o needs (map (owed answer) c.ranks)))
    → ranks ≡ map (owed answer) c.ranks → events' ≡ events ++ event.Decided kind answer ∷ [] → Leads first c programs states events → Leads first (decided c p o needs ranks) programs states events'
decided_on first c programs states events events' kind answer p o needs ranks at output step is more leads =
    let bytes = contents_of (cells_of states) c in
    turns first c programs states events events' (event.Decided kind answer) p o needs None ranks at (ap length is ∙ length-map c.ranks (owed answer)) output (led first c programs states events (ap is_up at) leads)
    (subst (λ (rs : List Seat). StepsTo (setup_of c) (running bytes c) (event.Decided kind answer) (running bytes (decided c p o needs rs))) (sym is) step)
    tt refl more

-- ## Phases

-- no dataset is open where the phase isn't Output
pub none_open : (first : Machine) (c : RunState) (programs : List (List Step)) (states : ℕ → DeviceState) (events : List Event) → c.stage ≡ stage.Serving → Leads first c programs states events → c.phase ≢ phase.Output → c.opened ≡ None
none_open first c programs states events at leads other = pick c.opened refl where
  pick : (o : Option Manifest) → c.opened ≡ o → c.opened ≡ None
  pick None e = e
  pick (Some m) e = absurd (other ((led first c programs states events (ap is_up at) leads).well.output m e))

pub rests_closed : (first : Machine) (c : RunState) (programs : List (List Step)) (states : ℕ → DeviceState) (events : List Event) (call : Step) → c.stage ≡ stage.Serving → Leads first c programs states events → IsClearRound c call → is_resting call ≡ true → c.opened ≡ None
rests_closed first c programs states events call at leads round is = none_open first c programs states events at leads (not_output c.phase call is (clear_allowed c call round))

pub output_of : (first : Machine) (c : RunState) (programs : List (List Step)) (states : ℕ → DeviceState) (events : List Event) → c.stage ≡ stage.Serving → Leads first c programs states events → (m : Manifest) → c.opened ≡ Some m → c.phase ≡ phase.Output
output_of first c programs states events at leads = (led first c programs states events (ap is_up at) leads).well.output
