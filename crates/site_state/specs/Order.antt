-- What the ranks of a run have done of their programs, and that somebody's turn moves.
use Rattle.std.specs.Prelude.{◌≡◌, ◌⊎◌, ◌≤◌, ◌<◌, ◌-◌, ℕ, false, List, length, Some, slice_get}
use Rattle.scr_base.specs.Calls.{is_end}
use Rattle.scr_base.specs.declared.actor.Actor.{Actor}
use Rattle.scr_base.specs.declared.content.Step.{Step}
use Rattle.round_core.specs.declared.seat.Seat.{Seat}
use Rattle.site_state.specs.declared.run_state.RunState.{RunState}
use Rattle.site_state.specs.declared.turn.Turn.TheVariants.{Moved}
use Rattle.site_state.specs.Asking.{program_of, takes_steps}
use Rattle.site_state.specs.Waiting.{turn_of}
use Rattle.scr_base.specs.declared.actor.Actor.TheVariants.{Rank}

-- the actor is one of a site of so many ranks
abbrev pub IsActor : ℕ → Actor → Type 0
IsActor ranks (Rank rank) = rank < ranks
IsActor ranks _ = Unit {0}

-- the rank's last step, if it has taken one, is of its program, and an End exactly where the rank has ended
abbrev pub SeatInOrder : List Step → Seat → Type 0
SeatInOrder steps seat = ((seat.number ≡ 0) × (seat.ended ≡ false)) ⊎ ((1 ≤ seat.number) × ((s : Step) × (slice_get steps (seat.number - 1) ≡ Some s) × (is_end s ≡ seat.ended)))

abbrev pub IsInOrder : List (List Step) → List Seat → Type 0
IsInOrder programs seats = (rank : ℕ) (seat : Seat) → slice_get seats rank ≡ Some seat → SeatInOrder (program_of programs rank) seat

-- the program of each of so many ranks ends with End
abbrev pub HasEnds : ℕ → List (List Step) → Type 0
HasEnds ranks programs = (rank : ℕ) → rank < ranks → takes_steps programs rank ≡ false

-- the turn of some actor of the site moves
pub record GoesOn (c : RunState) (programs : List (List Step)) : Type 0 where
  pub who : Actor
  pub one : IsActor (length c.ranks) who
  pub moves : turn_of c programs who ≡ Moved
