-- What the ranks ask for by a complete round.
use Rattle.std.proofs.Common.{◌≡◌, ℕ, suc, ◌+◌, ◌<◌, Bool, true, false, List, [], ◌∷◌, length, Option, Some, None, refl, sym, ap, ◌∙◌, arith}
use Rattle.std.specs.Prelude.{position, is_none, is_some, not, ◌&&◌, nat_lt, if◌then◌else◌}
use Rattle.std.specs.List.{position_or_len}
use Rattle.std.proofs.lemmas.Bool.Decides.{nat_tests}
use Rattle.scr_base.specs.declared.content.Step.{Step}
use Rattle.scr_base.specs.declared.answers.Refusal.{Refusal}
use Rattle.scr_base.specs.declared.shape.DataId.{DataId}
use Rattle.round_core.specs.declared.seat.Seat.{Seat}
use Rattle.round_core.specs.Seats.{is_missing, has_called, call_at, is_complete}
use Rattle.site_state.specs.declared.cache.Manifest.{Manifest}
use Rattle.site_state.specs.declared.run_state.RunState.{RunState}
use Rattle.site_state.specs.Choosing.{completes_with, is_to_save, is_to_drop}
use Rattle.site_state.specs.Asked.{IsSaveRound, IsDropRound}
use Rattle.site_state.proofs.Gates.{both}

missing_or : (o : Option Step) → is_none o ≡ true → is_some o ≡ false
missing_or None e = refl
missing_or (Some x) e = absurd (cc e)

and_false : (a b : Bool) → b ≡ false → a && b ≡ false
and_false true b e = e
and_false false b e = refl

false_and : (a b : Bool) → a ≡ false → a && b ≡ false
false_and true b e = absurd (cc e)
false_and false b e = refl

called_of : (o : Option Step) → is_none o ≡ false → is_some o ≡ true
called_of None e = absurd (cc e)
called_of (Some x) e = refl

-- one that is missing is before the end
before_end : (seats : List Seat) → position_or_len is_missing seats < length seats → is_complete seats ≡ false
before_end [] lt = absurd (omega (arith, lt))
before_end (seat ∷ seats) lt = step (is_missing seat) refl (position_or_len is_missing seats) (before_end seats) lt where
  step : (b : Bool) → is_missing seat ≡ b → (n : ℕ) → (n < length seats → is_complete seats ≡ false) → (if not b then 1 + n else 0) < suc (length seats) → has_called seat && is_complete seats ≡ false
  step true is n rest lt = false_and _ _ (missing_or (call_at seat) is)
  step false is n rest lt = and_false (has_called seat) _ (rest (omega (arith, lt)))

-- one is missing: not all have called
pub one_missing : (seats : List Seat) (rank : ℕ) → position is_missing seats ≡ Some rank → is_complete seats ≡ false
one_missing seats rank e = before_end seats (by (position_or_len is_missing seats) (length seats) (nat_lt (position_or_len is_missing seats) (length seats)) refl e) where
  by : (k n : ℕ) (b : Bool) → nat_lt k n ≡ b → (if b then Some k else None) ≡ Some rank → k < n
  by k n true is e = grind (arith, nat_tests, is)
  by k n false is e = absurd (cc e)

-- a round that isn't complete asks for nothing
pub asks_no_drop : (c : RunState) → is_complete c.ranks ≡ false → false ≡ is_to_drop c
asks_no_drop c e = sym (false_and _ _ (false_and _ _ (and_false (is_some c.opened) _ e)))

pub asks_no_save : (c : RunState) → is_complete c.ranks ≡ false → false ≡ is_to_save c
asks_no_save c e = sym (false_and _ _ (false_and _ _ (and_false (is_some c.opened) _ e)))

-- a round of Complete, which nothing speaks against, of an open dataset
pub asks_drop : (c : RunState) (which : DataId) → IsDropRound c which → true ≡ is_to_drop c
asks_drop c which r =
    sym (both _ _ (both _ _ (both _ _ (ap (λ (o : Option Manifest). is_some o) r.opened) r.complete) (ap (λ (o : Option Step). completes_with c o) r.first ∙ ap (λ (v : Option Refusal). is_none v) r.clear)) (ap not r.some))

-- a round of Complete that every rank calls valid, and which nothing speaks against, of an open dataset
pub asks_save : (c : RunState) (m : Manifest) → c.opened ≡ Some m → IsSaveRound c → true ≡ is_to_save c
asks_save c m opened r =
    sym (both _ _ (both _ _ (both _ _ (ap (λ (o : Option Manifest). is_some o) opened) r.complete) (ap (λ (o : Option Step). completes_with c o) r.first ∙ ap (λ (v : Option Refusal). is_none v) r.clear)) r.all)
