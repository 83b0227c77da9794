-- A round that every rank has called.
use Rattle.std.proofs.Common.{◌≡◌, ℕ, suc, ◌+◌, ◌≤◌, Bool, true, false, List, [], ◌∷◌, length, Option, Some, None, refl, ap, ◌∙◌, arith}
use Rattle.std.specs.Prelude.{position, is_none, is_some, not, ◌&&◌, nat_lt, if◌then◌else◌}
use Rattle.std.specs.List.{position_or_len}
use Rattle.std.proofs.lemmas.Bool.Decides.{nat_tests}
use Rattle.scr_base.specs.declared.content.Step.{Step}
use Rattle.round_core.specs.declared.seat.Seat.{Seat}
use Rattle.round_core.specs.Seats.{is_missing, has_called, call_at, is_complete}

called_or : (o : Option Step) → is_none o ≡ false → is_some o ≡ true
called_or None e = absurd (cc e)
called_or (Some x) e = refl

-- the first that is missing is past the end
past : (seats : List Seat) → length seats ≤ position_or_len is_missing seats → is_complete seats ≡ true
past [] le = refl
past (seat ∷ seats) le = step (is_missing seat) refl (position_or_len is_missing seats) (past seats) le where
  step : (b : Bool) → is_missing seat ≡ b → (n : ℕ) → (length seats ≤ n → is_complete seats ≡ true) → suc (length seats) ≤ (if not b then 1 + n else 0) → has_called seat && is_complete seats ≡ true
  step true is n rest le = absurd (omega (arith, le))
  step false is n rest le = ap (λ (b : Bool). b && is_complete seats) (called_or (call_at seat) is) ∙ rest (omega (arith, le))

-- none is missing: all have called
pub all_called : (seats : List Seat) → position is_missing seats ≡ None → is_complete seats ≡ true
all_called seats e = past seats (by (position_or_len is_missing seats) (length seats) (nat_lt (position_or_len is_missing seats) (length seats)) refl e) where
  by : (k n : ℕ) (b : Bool) → nat_lt k n ≡ b → (if b then Some k else None) ≡ None → n ≤ k
  by k n true is e = absurd (cc e)
  by k n false is e = grind (arith, nat_tests, is)
