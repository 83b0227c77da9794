-- The ranks of a run, and the round that their calls make.
use Rattle.std.specs.Prelude.{ℕ, ◌+◌, Bool, true, false, not, List, filter_map, slice_get, Option, Some, None, is_some, is_none, option_and_then, option_map, unwrap_or, if◌then◌else◌}
use Rattle.std.specs.List.{list_all}
use Rattle.scr_base.specs.Calls.{judged, same_call, says_valid, is_end}
use Rattle.scr_base.specs.declared.answers.Phase.{Phase}
use Rattle.scr_base.specs.declared.answers.Refusal.{Refusal}
use Rattle.scr_base.specs.declared.answers.Reply.{Reply}
use Rattle.scr_base.specs.declared.content.Step.{Step}
use Rattle.round_core.specs.declared.seat.Doing.{Doing}
use Rattle.round_core.specs.declared.seat.Doing.TheVariants.{Free, Waits, Owed}
use Rattle.round_core.specs.declared.seat.Seat.{Seat}

-- a rank that has taken no step
abbrev pub fresh_seat : Seat
fresh_seat = record { number = 0; ended = false; doing = Free }

abbrev pub is_free : Doing → Bool
is_free Free = true
is_free (Waits step) = false
is_free (Owed reply) = false

abbrev pub call_in : Doing → Option Step
call_in Free = None
call_in (Waits step) = Some step
call_in (Owed reply) = None

-- the call with which a rank waits
abbrev pub call_at : Seat → Option Step
call_at seat = call_in seat.doing

-- the rank waits with a call
abbrev pub has_called : Seat → Bool
has_called seat = is_some (call_at seat)

-- the rank doesn't wait with a call
abbrev pub is_missing : Seat → Bool
is_missing seat = is_none (call_at seat)

-- every rank waits with a call
abbrev pub is_complete : List Seat → Bool
is_complete seats = list_all has_called seats

-- the calls of a round, by rank
abbrev pub calls_of : List Seat → List Step
calls_of seats = filter_map call_at seats

-- rank 0's call
abbrev pub first_call : List Seat → Option Step
first_call seats = option_and_then call_at (slice_get seats 0)

-- the verdict on a round that is complete
abbrev pub judged_of : Phase → List Seat → Option Refusal
judged_of phase seats = option_and_then (λ first. judged phase first (calls_of seats)) (first_call seats)

-- the rank says that its part is valid, or says nothing of it
abbrev pub seat_is_valid : Seat → Bool
seat_is_valid seat = unwrap_or (option_map says_valid (call_at seat)) true

-- the number of the step that a rank takes next: an End is taken again
abbrev pub next_number : Seat → ℕ
next_number seat = if seat.ended then seat.number else seat.number + 1

-- the rank has called, and waits
abbrev pub called : Step → Seat → Seat
called step seat = record { number = next_number seat; ended = is_end step; doing = Waits step }

-- the rank has the reply due
abbrev pub owed : Reply → Seat → Seat
owed reply seat = record seat { doing = Owed reply }

-- the rank has taken its reply
abbrev pub freed : Seat → Seat
freed seat = record seat { doing = Free }

-- the rank has taken a step of its own
abbrev pub stepped : Seat → Seat
stepped seat = record seat { number = seat.number + 1 }

-- the reply that a rank has due
abbrev pub reply_in : Doing → Option Reply
reply_in Free = None
reply_in (Waits step) = None
reply_in (Owed reply) = Some reply

-- the rank's call isn't one of a round with this one
abbrev pub differs_at : Step → Seat → Bool
differs_at first seat = unwrap_or (option_map (λ step. not (same_call first step)) (call_at seat)) false
