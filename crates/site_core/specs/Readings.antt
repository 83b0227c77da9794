-- The readings of a clock that a history tells.
use Rattle.std.specs.Prelude.{◌≡◌, ℕ, not, Bool, List, [], ◌∷◌, ◌++◌, filter_map, Option, None, Some, option_map, IfSome, IsTrue}
use Rattle.std.specs.List.{list_all}
use Rattle.scr_base.specs.Streams.{counted}
use Rattle.ckpt_model.specs.Legal.{is_script_stop}
use Rattle.ckpt_model.specs.declared.event.Event.{Event}
use Rattle.ckpt_model.specs.declared.event.Event.TheVariants as event

abbrev pub time_in : Event → Option ℕ
time_in (event.Time now) = Some now
time_in _ = None

-- the times that the events tell
abbrev pub times_of : List Event → List ℕ
times_of events = filter_map time_in events

-- the times are a clock's readings, where it tells them: from this one on, in order, each once
abbrev pub AreReadings : Option ℕ → List ℕ → Type 0
AreReadings next [] = Unit {0}
AreReadings next (now ∷ times) = IfSome next (λ reading. now ≡ reading) × AreReadings (option_map counted next) times

-- the clock's next reading after so many
abbrev pub next_after : Option ℕ → List ℕ → Option ℕ
next_after next [] = next
next_after next (now ∷ times) = next_after (option_map counted next) times

-- the events tell all that was read of a clock meanwhile, and nothing else as the time
pub record TellsReadings (before after : Option ℕ) (events : List Event) : Type 0 where
  pub readings : AreReadings before (times_of events)
  pub next : after ≡ next_after before (times_of events)

-- no run is ended from outside
abbrev pub is_inside : Event → Bool
is_inside e = not (is_script_stop e)

-- these events came behind those, and tell what was read of the clock meanwhile; none of them ends a run from outside
pub record TellsTimes (before after : Option ℕ) (old new : List Event) : Type 0 where
  pub told : List Event
  pub is : new ≡ old ++ told
  pub tells : TellsReadings before after told
  pub inside : IsTrue (list_all is_inside told)
