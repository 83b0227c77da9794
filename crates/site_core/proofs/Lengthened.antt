-- Programs with a step more: what was a step of theirs still is.
use Rattle.std.proofs.Common.{ℕ, List, [], ◌∷◌}
use Rattle.scr_base.specs.declared.content.Step.{Step}
use Rattle.node_device.specs.DeviceState.{DeviceState}
use Rattle.ckpt_model.specs.declared.event.Event.{Event}
use Rattle.ckpt_model.specs.Legal.{AreOfPrograms}
use Rattle.ckpt_model.specs.Machine.{Machine, Setup}
use Rattle.site_state.specs.declared.run_state.RunState.{RunState}
use Rattle.site_state.specs.declared.run_state.RunStage.{RunStage}
use Rattle.site_state.specs.declared.run_state.RunStage.TheVariants as stage
use Rattle.site_state.specs.Asking.{lengthened}
use Rattle.site_state.specs.Shown.{setup_of}
use Rattle.site_core.specs.Holds.{IsSoFar, ToldAt, ClosesAt, Leads}
use Rattle.site_state.proofs.Lengthened.{still_of_program}

still_of_programs : (programs : List (List Step)) (rank : ℕ) (more : Step) (events : List Event) → AreOfPrograms programs events → AreOfPrograms (lengthened programs rank more) events
still_of_programs programs rank more [] h = tt
still_of_programs programs rank more (e ∷ events) h = (still_of_program programs rank more e h.0, still_of_programs programs rank more events h.1)

module _ (places : List ℕ) (programs : List (List Step)) (rank : ℕ) (more : Step) (events : List Event) where
  still_so_far : IsSoFar places programs events → IsSoFar places (lengthened programs rank more) events
  still_so_far h = record { begin = h.begin; steps = still_of_programs programs rank more events h.steps; goes_on = h.goes_on }

  still_told : (s : RunStage) → ToldAt s places programs events → ToldAt s places (lengthened programs rank more) events
  still_told stage.Begun told = told
  still_told stage.Storing told = told
  still_told stage.Looking told = still_so_far told
  still_told stage.Mending told = still_so_far told
  still_told stage.Serving told = still_so_far told
  still_told (stage.Saving w n) told = still_so_far told
  still_told (stage.Dropping d n) told = still_so_far told
  still_told stage.Dropped told = still_so_far told
  still_told stage.Over told = told

  still_closes : (s : RunStage) (setup : Setup) (first : Machine) (states : ℕ → DeviceState) → ClosesAt s setup first places programs states events → ClosesAt s setup first places (lengthened programs rank more) states events
  still_closes stage.Over setup first states h = record { front = h.front; why = h.why; is = h.is; before = h.before; run = h.run; safe = h.safe; well = h.well; begin = h.begin; steps = still_of_programs programs rank more events h.steps; goes_on = h.goes_on }
  still_closes stage.Begun setup first states h = tt
  still_closes stage.Storing setup first states h = tt
  still_closes stage.Looking setup first states h = tt
  still_closes stage.Mending setup first states h = tt
  still_closes stage.Serving setup first states h = tt
  still_closes (stage.Saving w n) setup first states h = tt
  still_closes (stage.Dropping d n) setup first states h = tt
  still_closes stage.Dropped setup first states h = tt

-- the history leads to the site with a step more, as it led to it without
pub still_leads : (first : Machine) (c : RunState) (programs : List (List Step)) (rank : ℕ) (more : Step) (states : ℕ → DeviceState) (events : List Event)
    → Leads first c programs states events → Leads first c (lengthened programs rank more) states events
still_leads first c programs rank more states events h = record {
  state = h.state;
  run = h.run;
  holds = h.holds;
  told = still_told c.places programs rank more events c.stage h.told;
  closes = still_closes c.places programs rank more events c.stage (setup_of c) first states h.closes;
}
