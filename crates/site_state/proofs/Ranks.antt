-- What the machine asks of its ranks, over the seats that stand for them.
use Rattle.std.proofs.Common.{◌≡◌, ℕ, zero, suc, Bool, true, false, List, [], ◌∷◌, map, Option, Some, None, refl, sym, ap, ◌∙◌, slice_get}
use Rattle.std.specs.Prelude.{slice_set, filter_map, option_map, option_and_then, is_some, unwrap_or}
use Rattle.std.specs.List.{list_all, list_any}
use Rattle.std.proofs.lemmas.Option.{slice_get-map}
use Rattle.scr_base.specs.Calls.{says_valid}
use Rattle.scr_base.specs.declared.answers.Reply.{Reply}
use Rattle.ckpt_model.specs.Machine.{RankState}
use Rattle.ckpt_model.specs.Questions.{call_of}
use Rattle.ckpt_model.specs.Steps.{change_rank}
use Rattle.ckpt_model.specs.Answers.{owes}
use Rattle.round_core.specs.declared.seat.Doing.{Doing}
use Rattle.round_core.specs.declared.seat.Doing.TheVariants as doing
use Rattle.round_core.specs.declared.seat.Seat.{Seat}
use Rattle.round_core.specs.Seats.{call_at, call_in, has_called, is_complete, calls_of, first_call, seat_is_valid, owed}
use Rattle.site_state.specs.Shown.{rank_of, does}

some_is : {X : Type 0} (x y : X) → Some x ≡ Some y → x ≡ y
some_is x y e = cc

-- ## Lists

pub any-map : {X Y : Type 0} (p : Y → Bool) (g : X → Y) (q : X → Bool) → ((x : X) → p (g x) ≡ q x) → (xs : List X) → list_any p (map g xs) ≡ list_any q xs
any-map p g q same [] = refl
any-map p g q same (x ∷ xs) = rw (same x, any-map p g q same xs) refl

pub all-map : {X Y : Type 0} (p : Y → Bool) (g : X → Y) (q : X → Bool) → ((x : X) → p (g x) ≡ q x) → (xs : List X) → list_all p (map g xs) ≡ list_all q xs
all-map p g q same [] = refl
all-map p g q same (x ∷ xs) = rw (same x, all-map p g q same xs) refl

pub filter_map-map : {X Y Z : Type 0} (h : Y → Option Z) (g : X → Y) (k : X → Option Z) → ((x : X) → h (g x) ≡ k x) → (xs : List X) → filter_map h (map g xs) ≡ filter_map k xs
filter_map-map h g k same [] = refl
filter_map-map h g k same (x ∷ xs) = rw (same x, filter_map-map h g k same xs) refl

pub map-same : {X Y : Type 0} (g h : X → Y) → ((x : X) → g x ≡ h x) → (xs : List X) → map g xs ≡ map h xs
map-same g h same [] = refl
map-same g h same (x ∷ xs) = rw (same x, map-same g h same xs) refl

pub map-map : {X Y Z : Type 0} (g : Y → Z) (h : X → Y) (k : X → Z) → ((x : X) → g (h x) ≡ k x) → (xs : List X) → map g (map h xs) ≡ map k xs
map-map g h k same [] = refl
map-map g h k same (x ∷ xs) = rw (same x, map-map g h k same xs) refl

-- ## Ranks

call_is : (d : Doing) → Rattle.ckpt_model.specs.Questions.call_in (does d) ≡ call_in d
call_is doing.Free = refl
call_is (doing.Waits step) = refl
call_is (doing.Owed reply) = refl

pub call_of_is : (seat : Seat) → call_of (rank_of seat) ≡ call_at seat
call_of_is seat = call_is seat.doing

pub complete_is : (seats : List Seat) → list_all (λ (r : RankState). is_some (call_of r)) (map rank_of seats) ≡ is_complete seats
complete_is seats = all-map (λ (r : RankState). is_some (call_of r)) rank_of has_called (λ seat. ap is_some (call_of_is seat)) seats

pub calls_are : (seats : List Seat) → filter_map call_of (map rank_of seats) ≡ calls_of seats
calls_are seats = filter_map-map call_of rank_of call_at call_of_is seats

first_of : (o : Option Seat) → option_and_then call_of (option_map rank_of o) ≡ option_and_then call_at o
first_of None = refl
first_of (Some seat) = call_of_is seat

pub first_is : (seats : List Seat) → option_and_then call_of (slice_get (map rank_of seats) 0) ≡ first_call seats
first_is seats = ap (λ o. option_and_then call_of o) (slice_get-map rank_of seats 0) ∙ first_of (slice_get seats 0)

pub valid_is : (seats : List Seat) → list_all (λ (r : RankState). unwrap_or (option_map says_valid (call_of r)) true) (map rank_of seats) ≡ list_all seat_is_valid seats
valid_is seats = all-map (λ (r : RankState). unwrap_or (option_map says_valid (call_of r)) true) rank_of seat_is_valid (λ seat. ap (λ o. unwrap_or (option_map says_valid o) true) (call_of_is seat)) seats

pub owed_is : (a : Reply) (seats : List Seat) → map (owes a) (map rank_of seats) ≡ map rank_of (map (owed a) seats)
owed_is a seats = map-map (owes a) rank_of (λ seat. rank_of (owed a seat)) (λ seat. refl) seats ∙ sym (map-map rank_of (owed a) (λ seat. rank_of (owed a seat)) (λ seat. refl) seats)

pub change_is : (f : RankState → RankState) (old new : Seat) → f (rank_of old) ≡ rank_of new → (seats : List Seat) (rank : ℕ) → slice_get seats rank ≡ Some old → change_rank f rank (map rank_of seats) ≡ map rank_of (slice_set seats rank new)
change_is f old new is [] rank at = absurd (cc at)
change_is f old new is (s ∷ seats) zero at = ap (λ r. r ∷ map rank_of seats) (ap (λ (x : Seat). f (rank_of x)) (some_is s old at) ∙ is)
change_is f old new is (s ∷ seats) (suc rank) at = ap (λ rs. rank_of s ∷ rs) (change_is f old new is seats rank at)

pub rank_is : (p : RankState → Bool) (seats : List Seat) (rank : ℕ) (seat : Seat) → slice_get seats rank ≡ Some seat → unwrap_or (option_map p (slice_get (map rank_of seats) rank)) false ≡ p (rank_of seat)
rank_is p seats rank seat at = ap (λ o. unwrap_or (option_map p o) false) (slice_get-map rank_of seats rank ∙ ap (λ o. option_map rank_of o) at)
