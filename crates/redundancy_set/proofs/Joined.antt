-- Segments that are put one behind the other.
use Rattle.std.proofs.Common.{◌≡◌, ℕ, ◌+◌, ◌-◌, ◌*◌, ◌<◌, ◌≤◌, List, length, take, min, slice_index, length-take, refl, sym, ap, ◌∙◌, arith, inl, inr}
use Rattle.std.proofs.Math.Nat.{add-mul, mul-le-mul_right}
use Rattle.std.proofs.lemmas.Bool.{cases_lt}
use Rattle.std.proofs.lemmas.List.{ext_get_or, get_or-take, take_all}

-- a segment more of a list
pub take_grown : (xs old new : List ℕ) (a c room : ℕ) → old ≡ take a xs → length new ≡ length old + room
    → ((b : ℕ) → b < length old → slice_index new b ≡ slice_index old b) → room ≡ min c (length xs - a)
    → ((b : ℕ) → b < room → slice_index new (length old + b) ≡ slice_index xs (a + b)) → new ≡ take (a + c) xs
take_grown xs old new a c room before size front is bytes =
    let long : length old ≡ min a (length xs) = ap (length {A = ℕ}) before ∙ length-take a xs in
    ext_get_or 0 new (take (a + c) xs) (omega (arith, size, long, length-take (a + c) xs))
    (λ k h.
    let whole = get_or-take (a + c) xs k 0 in
    elim (cases_lt k (length old)) [
      | inl low ↦
          front k low ∙ ap (λ ys. slice_index ys k) before ∙ get_or-take a xs k 0 (omega arith) ∙ sym (whole (omega arith))
      | inr high ↦
          let at : length old + (k - length old) ≡ k = omega arith in
          let from : a + (k - length old) ≡ k = omega (arith, long, size, is) in
          let own = bytes (k - length old) (omega (arith, size)) in
          sym (ap (slice_index new) at) ∙ own ∙ ap (slice_index xs) from ∙ sym (whole (omega (arith, long, size, is)))
    ])

-- the next place's segments end c bytes further on
pub next_place : (q k c : ℕ) → k ≡ q + 1 → k * c ≡ q * c + c
next_place q k c e = ap (λ t. t * c) e ∙ add-mul q 1 c ∙ omega arith

pub rows_fit : (q p c : ℕ) → q + 1 ≤ p → q * c + c ≤ p * c
rows_fit q p c h = let e = next_place q (q + 1) c refl in omega (arith, e, mul-le-mul_right {m = q + 1} {n = p} c h)

pub take_whole : (xs : List ℕ) (n : ℕ) → length xs ≤ n → take n xs ≡ xs
take_whole xs n h = take_all n xs h
