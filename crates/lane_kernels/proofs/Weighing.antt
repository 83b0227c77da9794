-- A sum as far as the source goes, and one source more.
use Rattle.std.proofs.Common.{◌≡◌, ℕ, ◌+◌, ◌-◌, List, [], ◌++◌, length, take, drop, min, slice_index, slice_index_or, refl, sym, ap, ap₂, ◌<◌, ◌∙◌, arith, inl, inr, length-take}
use Rattle.std.proofs.Math.ListN.{get_or-eq_default}
use Rattle.std.proofs.lemmas.Bool.{cases_lt}
use Rattle.std.proofs.lemmas.List.{get_or-take, get_or-drop, get_or_append_left, get_or-append_right}
use Rattle.gf256.specs.Field.{add, mul}
use Rattle.gf256.proofs.Linear.{add_assoc, add_zero}
use Rattle.gf256.proofs.FieldLemmas.{one-mul}
use Rattle.poly_code.specs.Polynomial.{weighted_sum}
use Rattle.poly_code.proofs.ValueLemmas.{weighted_sum_step, weighted_sum_none}
use Rattle.lane_kernels.specs.Lanes.{AddsEach, with_four}

pub as_far : (f g : ℕ → ℕ) (src old front : List ℕ) (len : ℕ) → len ≡ min (length old) (length src) → length front ≡ len → AddsEach f (take len src) (take len old) front
    → g 0 ≡ 0 → ((i : ℕ) → f (slice_index src i) ≡ g (slice_index src i)) → AddsEach g src old (front ++ drop len old)
as_far f g src old front len is size sum none same i h =
    elim (cases_lt i len) [
      | inl low ↦
          get_or_append_left front (drop len old) 0 i (omega arith)
          ∙ sum i (omega (arith, length-take len old))
          ∙ ap (λ t. add t (f (slice_index (take len src) i))) (get_or-take len old i 0 low)
          ∙ ap (λ t. add (slice_index old i) (f t)) (get_or-take len src i 0 low)
          ∙ ap (add (slice_index old i)) (same i)
      | inr past ↦
          let end : slice_index src i ≡ 0 = get_or-eq_default src 0 (omega arith) in
          let at : len + (i - len) ≡ i = omega arith in
          get_or-append_right front (drop len old) len i 0 size past
          ∙ get_or-drop len old (i - len) 0
          ∙ ap (slice_index old) at
          ∙ sym (ap (add (slice_index old i)) (ap g end ∙ none) ∙ add_zero (slice_index old i))
    ]

-- the sum of the first sources
abbrev pub sum_of_first : List ℕ → List (List ℕ) → (b n : ℕ) → ℕ
sum_of_first weights sources b n = weighted_sum (slice_index weights) (λ j. slice_index (slice_index_or sources j []) b) n

pub no_source : (weights : List ℕ) (sources : List (List ℕ)) (b old : ℕ) → old ≡ add old (sum_of_first weights sources b 0)
no_source weights sources b old =
    sym (ap (add old) (weighted_sum_none (slice_index weights) (λ j. slice_index (slice_index_or sources j []) b)) ∙ add_zero old)

pub one_source : (weights : List ℕ) (sources : List (List ℕ)) (b n first before new : ℕ) → before ≡ add first (sum_of_first weights sources b n)
    → new ≡ add before (mul (slice_index weights n) (slice_index (slice_index_or sources n []) b)) → new ≡ add first (sum_of_first weights sources b (n + 1))
one_source weights sources b n first before new was is =
    is
    ∙ ap (λ t. add t (mul (slice_index weights n) (slice_index (slice_index_or sources n []) b))) was
    ∙ add_assoc first (sum_of_first weights sources b n) (mul (slice_index weights n) (slice_index (slice_index_or sources n []) b))
    ∙ ap (add first) (sym (weighted_sum_step (slice_index weights) (λ j. slice_index (slice_index_or sources j []) b) n))

pub with_four_same : (x p p' q q' r r' s s' : ℕ) → p ≡ p' → q ≡ q' → r ≡ r' → s ≡ s' → with_four x p q r s ≡ with_four x p' q' r' s'
with_four_same x p p' q q' r r' s s' e f g h = ap₂ add (ap₂ add (ap₂ add (ap (add x) e) f) g) h

-- a byte by the weight 1
pub weighed_once : (weight x : ℕ) → weight ≡ 1 → x < 256 → x ≡ mul weight x
weighed_once weight x one small = sym (ap (λ w. mul w x) one ∙ one-mul x small)

-- four sources more
pub four_sources : (weights : List ℕ) (sources : List (List ℕ)) (b n first before new : ℕ) → before ≡ add first (sum_of_first weights sources b n)
    → new
    ≡ with_four before (mul (slice_index weights n) (slice_index (slice_index_or sources n []) b)) (mul (slice_index weights (n + 1)) (slice_index (slice_index_or sources (n + 1) []) b))
    (mul (slice_index weights (n + 2)) (slice_index (slice_index_or sources (n + 2) []) b)) (mul (slice_index weights (n + 3)) (slice_index (slice_index_or sources (n + 3) []) b))
    → new ≡ add first (sum_of_first weights sources b (n + 4))
four_sources weights sources b n first before new was is =
    let of : ℕ → ℕ = λ k. mul (slice_index weights k) (slice_index (slice_index_or sources k []) b) in
    let sum : ℕ → ℕ = λ k. add first (sum_of_first weights sources b k) in
    let x : ℕ = add before (of n) in
    let y : ℕ = add x (of (n + 1)) in
    let z : ℕ = add y (of (n + 2)) in
    let two : n + 1 + 1 ≡ n + 2 = omega arith in
    let three : n + 2 + 1 ≡ n + 3 = omega arith in
    let four : n + 3 + 1 ≡ n + 4 = omega arith in
    let at_one : x ≡ sum (n + 1) = one_source weights sources b n first before x was refl in
    let at_two : y ≡ sum (n + 2) = one_source weights sources b (n + 1) first x y at_one refl ∙ ap sum two in
    let at_three : z ≡ sum (n + 3) = one_source weights sources b (n + 2) first y z at_two refl ∙ ap sum three in
    one_source weights sources b (n + 3) first z new at_three is ∙ ap sum four
