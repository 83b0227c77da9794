-- Which members have parity in which stripes, by numbers alone.
use Rattle.std.proofs.Common.{◌≡◌, ℕ, zero, suc, ◌+◌, ◌-◌, ◌<◌, ◌≤◌, ◌%◌, ◌==◌, min, not, Bool, true, false, length, refl, ap, ◌∙◌, arith, inl, inr, ◌⊎◌}
use Rattle.std.specs.List.{filter}
use Rattle.std.proofs.Math.Nat.{mod-eq_of_lt, add-mod_right}
use Rattle.std.proofs.lemmas.Bool.{cases_Bool, cases_lt, eq-eqb, eqb-true}
use Rattle.std.proofs.lemmas.List.Filters.{length-filter_both}
use Rattle.std.proofs.lemmas.List.Folds.{list_any_at}
use Rattle.std.proofs.lemmas.List.FromFn.{length-range_with_len}
use Rattle.scr_base.specs.Sets.{numbers_below}
use Rattle.scr_base.proofs.Chosen.{number_at}
use Rattle.member_shares.specs.Layout.{holds_parity, parity_place, data_place}
use Rattle.member_shares.proofs.Ranks.{rank, rank_in, rank_out, any_number}

-- the member j places after stripe s, round the set
after_low : (n s j : ℕ) → s + j < n → (s + j) % n ≡ s + j
after_low n s j h = mod-eq_of_lt h

after_high : (n s j : ℕ) → s < n → j ≤ n → n ≤ s + j → s + j - n < n → (s + j) % n ≡ s + j - n
after_high n s j h l up low =
    let e : s + j ≡ s + j - n + n = omega arith in
    ap (λ t. t % n) e ∙ add-mod_right (s + j - n) n ∙ mod-eq_of_lt low

-- the members with parity in stripe s are the p from s on, round the set
pub holds_true : (n p s m : ℕ) → s < n → m < n → p ≤ n → holds_parity n p s m ≡ true → (m < s + p × s ≤ m) ⊎ (m + n < s + p × m < s)
unfolding holds_parity
holds_true n p s m h l few e =
    let found = any_number (λ j. (s + j) % n == m) p e in
    let j : ℕ = found.0 in
    let same : (s + j) % n ≡ m = eqb-true ((s + j) % n) m found.2 in
    let low : j < p = found.1 in
    elim (cases_lt (s + j) n) [
      | inl near ↦ let at : (s + j) % n ≡ s + j = after_low n s j near in inl (omega arith, omega arith)
      | inr far ↦ let at : (s + j) % n ≡ s + j - n = after_high n s j h (omega arith) far (omega arith) in inr (omega arith, omega arith)
    ]

is_held : (n p s m j : ℕ) → j < p → (s + j) % n ≡ m → holds_parity n p s m ≡ true
unfolding holds_parity
is_held n p s m j h e =
    list_any_at (λ j. (s + j) % n == m) (numbers_below p) j 0 (omega (arith, length-range_with_len 0 p))
    (ap (λ t. (s + t) % n == m) (number_at p j h) ∙ eq-eqb ((s + j) % n) m e)

pub held_near : (n p s m : ℕ) → m < n → s ≤ m → m < s + p → holds_parity n p s m ≡ true
held_near n p s m l up near =
    let sum : s + (m - s) ≡ m = omega arith in
    is_held n p s m (m - s) (omega arith) (ap (λ t. t % n) sum ∙ mod-eq_of_lt l)

pub held_round : (n p s m : ℕ) → s < n → m < s → m + n < s + p → holds_parity n p s m ≡ true
held_round n p s m h low near =
    let sum : s + (m + n - s) ≡ m + n = omega arith in
    let small : m < n = omega arith in
    is_held n p s m (m + n - s) (omega arith) (ap (λ t. t % n) sum ∙ add-mod_right m n ∙ mod-eq_of_lt small)

not_both : (b : Bool) → b ≡ true → b ≡ false → ⊥
not_both b e f = cc

pub holds_false : (n p s m : ℕ) → s < n → m < n → holds_parity n p s m ≡ false → (s ≤ m → s + p ≤ m) × (m < s → s + p ≤ m + n)
holds_false n p s m h l e = (
  λ up.
      elim (cases_lt m (s + p)) [
        | inl near ↦ absurd (not_both (holds_parity n p s m) (held_near n p s m l up near) e)
        | inr far ↦ far
      ],
  λ low.
      elim (cases_lt (m + n) (s + p)) [
        | inl near ↦ absurd (not_both (holds_parity n p s m) (held_round n p s m h low near) e)
        | inr far ↦ far
      ],
)

-- no parity, and so no member with any
pub holds_some : (n p s m : ℕ) → s < n → m < n → p ≤ n → holds_parity n p s m ≡ true → 1 ≤ p
holds_some n p s m h l few e =
    elim (holds_true n p s m h l few e) [ inl near ↦ omega arith | inr round ↦ omega arith ]

-- with one parity segment it is member s that has it
pub holds_one : (n s m : ℕ) → s < n → m < n → holds_parity n 1 s m ≡ true → m ≡ s
holds_one n s m h l e =
    elim (holds_true n 1 s m h l (omega arith) e) [ inl near ↦ omega arith | inr round ↦ omega arith ]

-- ---- places
pub parity_place_is : (n p m s : ℕ) → m < n → p ≤ n → s ≤ n → parity_place n p m s ≡ (min s (m + 1) - (m + 1 - p)) + (s - (n + m + 1 - p))
unfolding parity_place
parity_place_is n p m zero l few h = omega arith
parity_place_is n p m (suc s) l few h =
    let before : rank (λ t. holds_parity n p t m) s ≡ (min s (m + 1) - (m + 1 - p)) + (s - (n + m + 1 - p)) = parity_place_is n p m s l few (omega arith) in
    elim (cases_Bool (holds_parity n p s m)) [
      | inl held ↦
          let more = rank_in (λ t. holds_parity n p t m) s held in
          elim (holds_true n p s m (omega arith) l few held) [
            | inl near ↦ omega (arith, more, before, near.0, near.1)
            | inr round ↦ omega (arith, more, before, round.0, round.1)
          ]
      | inr free ↦
          let same = rank_out (λ t. holds_parity n p t m) s free in
          let far = holds_false n p s m (omega arith) l free in
          elim (cases_lt m s) [
            | inl low ↦ omega (arith, same, before, far.1 low)
            | inr up ↦ omega (arith, same, before, far.0 up)
          ]
    ]

pub both_places : (n p m s : ℕ) → parity_place n p m s + data_place n p m s ≡ s
unfolding parity_place data_place
both_places n p m s =
    length-filter_both (λ t. holds_parity n p t m) (λ t. not (holds_parity n p t m)) (λ t. refl) (numbers_below s) ∙ length-range_with_len 0 s

-- over all stripes each member has p parity segments and n - p data segments
pub parity_all : (n p m : ℕ) → m < n → p ≤ n → parity_place n p m n ≡ p
parity_all n p m l few = omega (arith, parity_place_is n p m n l few (omega arith))

pub data_all : (n p m : ℕ) → m < n → p ≤ n → data_place n p m n ≡ n - p
data_all n p m l few = omega (arith, parity_all n p m l few, both_places n p m n)

-- before the first stripe there is none
pub parity_place_none : (n p m : ℕ) → parity_place n p m 0 ≡ 0
unfolding parity_place
parity_place_none n p m = refl

pub data_place_none : (n p m : ℕ) → data_place n p m 0 ≡ 0
unfolding data_place
data_place_none n p m = refl

-- a stripe more
pub parity_place_in : (n p m s : ℕ) → holds_parity n p s m ≡ true → parity_place n p m (suc s) ≡ parity_place n p m s + 1
unfolding parity_place
parity_place_in n p m s e = rank_in (λ t. holds_parity n p t m) s e

pub parity_place_out : (n p m s : ℕ) → holds_parity n p s m ≡ false → parity_place n p m (suc s) ≡ parity_place n p m s
unfolding parity_place
parity_place_out n p m s e = rank_out (λ t. holds_parity n p t m) s e

pub data_place_in : (n p m s : ℕ) → holds_parity n p s m ≡ false → data_place n p m (suc s) ≡ data_place n p m s + 1
unfolding data_place
data_place_in n p m s e = rank_in (λ t. not (holds_parity n p t m)) s (ap not e)

pub data_place_out : (n p m s : ℕ) → holds_parity n p s m ≡ true → data_place n p m (suc s) ≡ data_place n p m s
unfolding data_place
data_place_out n p m s e = rank_out (λ t. not (holds_parity n p t m)) s (ap not e)

-- ---- the members of one stripe
holders_below : (n p s m : ℕ) → s < n → p ≤ n → m ≤ n → rank (holds_parity n p s) m ≡ (min m (s + p) - s) + min m (s + p - n)
holders_below n p s zero h few l = omega arith
holders_below n p s (suc m) h few l =
    let before = holders_below n p s m h few (omega arith) in
    elim (cases_Bool (holds_parity n p s m)) [
      | inl held ↦
          let more = rank_in (holds_parity n p s) m held in
          elim (holds_true n p s m h (omega arith) few held) [
            | inl near ↦ omega (arith, more, before, near.0, near.1)
            | inr round ↦ omega (arith, more, before, round.0, round.1)
          ]
      | inr free ↦
          let same = rank_out (holds_parity n p s) m free in
          let far = holds_false n p s m h (omega arith) free in
          elim (cases_lt m s) [
            | inl low ↦ omega (arith, same, before, far.1 low)
            | inr up ↦ omega (arith, same, before, far.0 up)
          ]
    ]

-- n - p members have data in it
pub data_holders : (n p s : ℕ) → s < n → p ≤ n → length (filter (λ m. not (holds_parity n p s m)) (numbers_below n)) ≡ n - p
data_holders n p s h few =
    let all = length-filter_both (holds_parity n p s) (λ m. not (holds_parity n p s m)) (λ m. refl) (numbers_below n) ∙ length-range_with_len 0 n in
    omega (arith, all, holders_below n p s n h few (omega arith))
