-- What a rank may do next.
use Rattle.std.specs.Prelude.{◌≡◌, ◌<◌, ◌+◌, ◌^◌, ℕ, true, false, List, slice_get, Some}
use Rattle.scr_base.specs.Calls.{is_local, is_end}
use Rattle.scr_base.specs.declared.content.Step.{Step}
use Rattle.ckpt_model.specs.Legal.{is_step_of}
use Rattle.round_core.specs.declared.seat.Seat.{Seat}
use Rattle.round_core.specs.Seats.{is_free, next_number}
use Rattle.site_state.specs.declared.run_state.RunState.{RunState}

-- a rank that may take its next step
pub record IsFreeSeat (c : RunState) (rank : ℕ) : Type 0 where
  pub seat : Seat
  pub is : slice_get c.ranks rank ≡ Some seat
  pub free : is_free seat.doing ≡ true

-- the step is what a free rank calls next
pub record IsNextCall (programs : List (List Step)) (c : RunState) (rank : ℕ) (call : Step) : Type 0 where
  pub seat : Seat
  pub is : slice_get c.ranks rank ≡ Some seat
  pub free : is_free seat.doing ≡ true
  pub small : seat.number + 1 < 2 ^ 32
  pub collective : is_local call ≡ false
  pub again : seat.ended ≡ true → is_end call ≡ true
  pub of_program : is_step_of programs rank (next_number seat) call

-- the step of its own is what a free rank takes next
pub record IsNextLocal (programs : List (List Step)) (c : RunState) (rank : ℕ) (call : Step) : Type 0 where
  pub seat : Seat
  pub is : slice_get c.ranks rank ≡ Some seat
  pub free : is_free seat.doing ≡ true
  pub goes : seat.ended ≡ false
  pub small : seat.number + 1 < 2 ^ 32
  pub local : is_local call ≡ true
  pub of_program : is_step_of programs rank (seat.number + 1) call
