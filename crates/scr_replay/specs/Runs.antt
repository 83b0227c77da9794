-- What a run and its text come to.
use Rattle.std.specs.Prelude.{ℕ, ◌≡◌, ◌≤◌, ◌<◌, not, Bool, true, false, List, [], ◌∷◌, ◌++◌, Option}
use Rattle.std.specs.List.{list_all}
use Rattle.scr_base.specs.Causes.{Rose}
use Rattle.scr_base.specs.Streams.{Joins}
use Rattle.node_device.specs.DeviceState.{DeviceState}
use Rattle.ckpt_model.specs.Machine.{Machine, Setup}
use Rattle.ckpt_model.specs.Text.{history_text}
use Rattle.ckpt_model.specs.Legal.{Item, Gives}
use Rattle.ckpt_model.specs.Runs.{RunsTo}
use Rattle.ckpt_model.specs.declared.event.Event.{Event}
use Rattle.ckpt_model.specs.declared.event.Event.TheVariants as event
use Rattle.ckpt_model.specs.declared.event.StopCause.{StopCause}
use Rattle.ckpt_model.specs.declared.event.StopCause.TheVariants as stops
use Rattle.site_stands.specs.Site.{Stands}
use Rattle.site_calls.specs.Calls.{Tells}
use Rattle.site_core.specs.Holds.{CanBegin}
use Rattle.site_core.specs.Readings.{TellsReadings}
use Rattle.site_core.specs.Faults.{TellsCauses}
use Rattle.scr_replay.specs.Outputs.{JoinsFront}

-- a device ended the run, or somebody from outside
abbrev pub is_cut : StopCause → Bool
is_cut (stops.Device node count) = true
is_cut (stops.Full node used capacity) = true
is_cut stops.Script = true
is_cut _ = false

-- the event doesn't end a run so
abbrev pub goes_well : Event → Bool
goes_well (event.Stop cause) = not (is_cut cause)
goes_well _ = true

-- The items' events, item by item, from a state for which the devices stand. Each item gives its events, which are steps of the machine, and the
-- devices behind it stand for the state that they lead to. A run that a device ended is the last item of which that is said; where an item went
-- well, the next one begins there, as long as the devices tell what they hold.
abbrev pub Plays : Setup → List Item → (ℕ → DeviceState) → Machine → List Event → (ℕ → DeviceState) → Type 0
Plays s [] old m events new = (events ≡ []) × (new ≡ old)
Plays s (item ∷ items) old m events new =
    (first : List Event) × (rest : List Event) × (between : ℕ → DeviceState)
    × (events ≡ first ++ rest) × Gives item first
    × (Tells between → (next : Machine) × RunsTo s m first next × Stands s between next × (list_all goes_well first ≡ true → CanBegin s between next × Plays s items between next rest new))

-- where the devices tell what they hold: from each state for which they stood, and over which a run could begin, the items were played
abbrev pub IsPlayed : Setup → List Item → (ℕ → DeviceState) → (ℕ → DeviceState) → List Event → Type 0
IsPlayed s items old new events = Tells old → (first : Machine) → Stands s old first → CanBegin s old first → Plays s items old first events new

-- the items were played, the text of their history went out, the times in it are the clock's readings, and each fault in it has its cause and is told once
pub record IsReplayed (s : Setup) (items : List Item) (old new : ℕ → DeviceState) (held held' : Option (List ℕ)) (clock clock' : Option ℕ) : Type 0 where
  pub events : List Event
  pub played : IsPlayed s items old new events
  pub printed : Joins held held' (history_text events)
  pub timed : TellsReadings clock clock' events
  pub causes : TellsCauses old new events

-- the items were played, a front of the text of their history went out, and each fault in the history has its cause and is told once
pub record IsCutShort (s : Setup) (items : List Item) (old new : ℕ → DeviceState) (held held' : Option (List ℕ)) : Type 0 where
  pub events : List Event
  pub played : IsPlayed s items old new events
  pub printed : JoinsFront held held' (history_text events)
  pub causes : TellsCauses old new events

-- a run that isn't told whole ends the call with status 4 or 5, with its cause; but at status 4 nothing of it went out
pub record RunEnds (s : Setup) (item : Item) (old new : ℕ → DeviceState) (held held' : Option (List ℕ)) (faults faults' status : ℕ) : Type 0 where
  pub known : (3 < status) × (status ≤ 5)
  pub sink_fault : status ≡ 4 → Rose faults faults'
  pub cut : status ≡ 4 → IsCutShort s (item ∷ []) old new held held'
  pub silent : 4 < status → held' ≡ held
  pub quiet : 4 < status → faults' ≡ faults
