-- Lists of ranks: fresh ones, and the first whose call differs.
use Rattle.std.proofs.Common.{◌≡◌, ℕ, suc, ◌+◌, Bool, true, List, [], ◌∷◌, ◌++◌, length, Option, Some, refl, ap, ◌∙◌}
use Rattle.std.specs.Prelude.{replicate, position, not, option_map, option_and_then}
use Rattle.std.specs.List.{position_or_len}
use Rattle.std.proofs.lemmas.List.{replicate-append-replicate}
use Rattle.scr_base.specs.Calls.{same_call, judged, or_else, refuse_if, allows}
use Rattle.scr_base.specs.declared.answers.Phase.{Phase}
use Rattle.scr_base.specs.declared.answers.Refusal.TheVariants as refusal
use Rattle.scr_base.specs.declared.content.Step.{Step}
use Rattle.round_core.specs.declared.seat.Doing.{Doing}
use Rattle.round_core.specs.declared.seat.Doing.TheVariants.{Free, Waits, Owed}
use Rattle.round_core.specs.declared.seat.Seat.{Seat}
use Rattle.round_core.specs.Seats.{fresh_seat, is_complete, calls_of, first_call, judged_of, differs_at}

pub fresh_push : (n : ℕ) (xs : List Seat) → xs ≡ replicate n fresh_seat → xs ++ fresh_seat ∷ [] ≡ replicate (n + 1) fresh_seat
fresh_push n xs is = ap (λ (ys : List Seat). ys ++ fresh_seat ∷ []) is ∙ replicate-append-replicate n 1 fresh_seat

pub ruleset fresh_laws = fresh_push

module _ (first : Step) (n : ℕ) (e : Bool) (seats : List Seat) where
  -- what differs among the calls
  others : ℕ
  others = position_or_len (λ call. not (same_call first call)) (calls_of seats)

  place_at : (d : Doing) → is_complete (record { number = n; ended = e; doing = d } ∷ seats) ≡ true → (is_complete seats ≡ true → position_or_len (differs_at first) seats ≡ position_or_len (λ call. not (same_call first call)) (calls_of seats))
      → position_or_len (differs_at first) (record { number = n; ended = e; doing = d } ∷ seats) ≡ position_or_len (λ call. not (same_call first call)) (calls_of (record { number = n; ended = e; doing = d } ∷ seats))
  place_at Free h more = absurd (cc)
  place_at (Waits step) h more = rw (more h) refl
  place_at (Owed reply) h more = absurd (cc)

-- in a complete round each rank has a call, so that places of ranks are places of calls
pub same_place : (first : Step) (seats : List Seat) → is_complete seats ≡ true → position_or_len (differs_at first) seats ≡ position_or_len (λ call. not (same_call first call)) (calls_of seats)
same_place first [] h = refl
same_place first (s ∷ seats) h = place_at first s.number s.ended seats s.doing h (same_place first seats)

count_at : (n : ℕ) (e : Bool) (seats : List Seat) (d : Doing) → is_complete (record { number = n; ended = e; doing = d } ∷ seats) ≡ true → (is_complete seats ≡ true → length (calls_of seats) ≡ length seats)
    → length (calls_of (record { number = n; ended = e; doing = d } ∷ seats)) ≡ suc (length seats)
count_at n e seats Free h more = absurd (cc)
count_at n e seats (Waits step) h more = rw (more h) refl
count_at n e seats (Owed reply) h more = absurd (cc)

pub same_count : (seats : List Seat) → is_complete seats ≡ true → length (calls_of seats) ≡ length seats
same_count [] h = refl
same_count (s ∷ seats) h = count_at s.number s.ended seats s.doing h (same_count seats)

-- the first rank whose call differs is that of the first call that does
pub same_position : (first : Step) (seats : List Seat) → is_complete seats ≡ true → position (differs_at first) seats ≡ position (λ call. not (same_call first call)) (calls_of seats)
same_position first seats h = rw (same_place first seats h, same_count seats h) refl

-- the verdict, by the first call and the first that differs from it
pub verdict_is : (p : Phase) (seats : List Seat) (first : Step) (place : Option ℕ) → is_complete seats ≡ true → Some first ≡ first_call seats → place ≡ position (differs_at first) seats
    → or_else (option_map (λ rank. refusal.Mismatch rank) place) (refuse_if (not (allows p first)) (refusal.Phase p)) ≡ judged_of p seats
verdict_is p seats first place complete is at =
    ap (λ (o : Option ℕ). or_else (option_map (λ rank. refusal.Mismatch rank) o) (refuse_if (not (allows p first)) (refusal.Phase p))) (at ∙ same_position first seats complete)
    ∙ ap (λ (o : Option Step). option_and_then (λ f. judged p f (calls_of seats)) o) is
