-- The round is told the time.
use Rattle.std.proofs.Common.{◌≡◌, ℕ, true, List, [], ◌∷◌, ◌++◌, Some, refl, ap}
use Rattle.scr_base.specs.declared.content.Step.{Step}
use Rattle.node_device.specs.DeviceState.{DeviceState}
use Rattle.ckpt_model.specs.declared.event.Event.{Event}
use Rattle.ckpt_model.specs.declared.event.Event.TheVariants as event
use Rattle.ckpt_model.specs.Machine.{Machine}
use Rattle.site_state.specs.declared.run_state.RunState.{RunState}
use Rattle.site_state.specs.Choosing.{wants_reading}
use Rattle.site_core.specs.Stored.{cells_of, contents_of}
use Rattle.site_core.specs.Holds.{Leads}
use Rattle.site_core.proofs.Told.{is_up, led, turns}
use Rattle.site_state.proofs.Times.{asking, reads}

pub told_time : (first : Machine) (c : RunState) (programs : List (List Step)) (states : ℕ → DeviceState) (events events' : List Event) (now : ℕ) → wants_reading c ≡ true
    → events' ≡ events ++ event.Time now ∷ [] → Leads first c programs states events → Leads first (record c { reading = Some now }) programs states events'
told_time first c programs states events events' now wants more leads =
    let a = asking c wants in
    let l = led first c programs states events (ap is_up a.at) leads in
    turns first c programs states events events' (event.Time now) c.phase c.offer c.needs (Some now) c.ranks a.at refl l.well.output l (reads c (contents_of (cells_of states) c) now a) tt refl more
