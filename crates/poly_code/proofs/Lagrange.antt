-- The polynomial through given values at n different points.
use Rattle.std.proofs.Common.{◌≡◌, ◌≢◌, ℕ, zero, suc, ◌<◌, ◌≤◌, ◌==◌, true, false, cond, List, [], ◌∷◌, length, refl, sym, ap, ap₂, ◌∙◌, arith, inl, inr}
use Rattle.std.proofs.lemmas.Bool.{eq-eqb, ne_eqb, cases_lt, cases_eq}
use Rattle.gf256.specs.Field.{add, mul, inverse}
use Rattle.gf256.proofs.Linear.{add_comm, add_self, zero_add, add_zero, add-lt}
use Rattle.gf256.proofs.FieldLemmas.{mul-add_left, mul-add_right, mul-zero, zero-mul, one-mul, mul_comm, mul_assoc, mul-lt, mul-inverse, zero_from_mul, same_from_add}
use Rattle.poly_code.specs.Polynomial.{value_at, IsBytes, weighted_sum}
use Rattle.poly_code.specs.Lagrange.{others_product, weight_of}
use Rattle.poly_code.proofs.Roots.{value_at-lt, left_comm}
use Rattle.poly_code.proofs.Same.{sum_of, value_at-sum_of, length-sum_of, IsBytes-sum_of, same_value_from_points}

-- each coefficient times a
unfoldable pub scaled : ℕ → List ℕ → List ℕ
scaled a [] = []
scaled a (c ∷ cs) = mul a c ∷ scaled a cs

pub value_at-scaled : (a : ℕ) (cs : List ℕ) (x : ℕ) → value_at (scaled a cs) x ≡ mul a (value_at cs x)
unfolding scaled value_at
value_at-scaled a [] x = sym (mul-zero a)
value_at-scaled a (c ∷ cs) x =
    ap (add (mul a c)) (ap (mul x) (value_at-scaled a cs x) ∙ left_comm x a (value_at cs x)) ∙ sym (mul-add_right a c (mul x (value_at cs x)))

pub length-scaled : (a : ℕ) (cs : List ℕ) → length (scaled a cs) ≡ length cs
unfolding scaled
length-scaled a [] = refl
length-scaled a (c ∷ cs) = ap suc (length-scaled a cs)

pub IsBytes-scaled : (a : ℕ) (cs : List ℕ) → IsBytes (scaled a cs)
unfolding scaled
IsBytes-scaled a [] k = omega arith
IsBytes-scaled a (c ∷ cs) zero = mul-lt a c
IsBytes-scaled a (c ∷ cs) (suc k) = IsBytes-scaled a cs k

-- the polynomial times x - r
unfoldable pub times_factor : ℕ → List ℕ → List ℕ
times_factor r cs = sum_of (scaled r cs) (0 ∷ cs)

value_at-times_factor : (r : ℕ) (cs : List ℕ) (x : ℕ) → value_at (times_factor r cs) x ≡ mul (add x r) (value_at cs x)
unfolding times_factor value_at
value_at-times_factor r cs x =
    value_at-sum_of (scaled r cs) (0 ∷ cs) x ∙ ap₂ add (value_at-scaled r cs x) (zero_add (mul x (value_at cs x)))
    ∙ add_comm (mul r (value_at cs x)) (mul x (value_at cs x)) ∙ sym (mul-add_left x r (value_at cs x))

length-times_factor : (r : ℕ) (cs : List ℕ) → length (times_factor r cs) ≡ suc (length cs)
unfolding times_factor
length-times_factor r cs = omega (arith, length-sum_of (scaled r cs) (0 ∷ cs), length-scaled r cs)

IsBytes-cons : (c : ℕ) (cs : List ℕ) → c < 256 → IsBytes cs → IsBytes (c ∷ cs)
IsBytes-cons c cs h p zero = h
IsBytes-cons c cs h p (suc k) = p k

IsBytes-times_factor : (r : ℕ) (cs : List ℕ) → IsBytes cs → IsBytes (times_factor r cs)
unfolding times_factor
IsBytes-times_factor r cs p = IsBytes-sum_of (scaled r cs) (0 ∷ cs) (IsBytes-scaled r cs) (IsBytes-cons 0 cs (omega arith) p)

-- the product of x - point i over each i below n but j
unfoldable pub others : (ℕ → ℕ) → ℕ → ℕ → List ℕ
others point j zero = 1 ∷ []
others point j (suc n) = cond (n == j) (others point j n) (times_factor (point n) (others point j n))

value_at-others : (point : ℕ → ℕ) (j n x : ℕ) → value_at (others point j n) x ≡ others_product point j n x
unfolding others others_product value_at
value_at-others point j zero x = ap (add 1) (mul-zero x) ∙ add_zero 1
value_at-others point j (suc n) x =
    elim (n == j) as (λ b. value_at (cond b (others point j n) (times_factor (point n) (others point j n))) x ≡ cond b (others_product point j n x) (mul (add x (point n)) (others_product point j n x))) [
      | true ↦ value_at-others point j n x
      | false ↦ value_at-times_factor (point n) (others point j n) x ∙ ap (mul (add x (point n))) (value_at-others point j n x)
    ]

IsBytes-others : (point : ℕ → ℕ) (j n : ℕ) → IsBytes (others point j n)
unfolding others
IsBytes-others point j zero = IsBytes-cons 1 [] (omega arith) (λ k. omega arith)
IsBytes-others point j (suc n) =
    elim (n == j) as (λ b. IsBytes (cond b (others point j n) (times_factor (point n) (others point j n)))) [
      | true ↦ IsBytes-others point j n
      | false ↦ IsBytes-times_factor (point n) (others point j n) (IsBytes-others point j n)
    ]

length-others_below : (point : ℕ → ℕ) (j n : ℕ) → n ≤ j → length (others point j n) ≡ suc n
unfolding others
length-others_below point j zero h = refl
length-others_below point j (suc n) h =
    let e : (n == j) ≡ false = ne_eqb n j (omega arith) in
    rw e (length-times_factor (point n) (others point j n) ∙ ap suc (length-others_below point j n (omega arith)))

length-others : (point : ℕ → ℕ) (j n : ℕ) → j < n → length (others point j n) ≡ n
unfolding others
length-others point j zero h = absurd (omega arith)
length-others point j (suc n) h =
    elim (cases_eq n j) [
      | inl e ↦ let t : (n == j) ≡ true = eq-eqb n j e in rw t (length-others_below point j n (omega arith))
      | inr ne ↦
          let t : (n == j) ≡ false = ne_eqb n j ne in
          rw t (length-times_factor (point n) (others point j n) ∙ ap suc (length-others point j n (omega arith)))
    ]

-- it is 0 at each other point
others_product-other : (point : ℕ → ℕ) (j n i : ℕ) → i < n → i ≢ j → others_product point j n (point i) ≡ 0
unfolding others_product
others_product-other point j zero i h ne = absurd (omega arith)
others_product-other point j (suc n) i h ne =
    elim (cases_eq n i) [
      | inl e ↦
          let t : (n == j) ≡ false = ne_eqb n j (λ f. ne (sym e ∙ f)) in
          rw t (ap (λ t. mul t (others_product point j n (point i))) (ap (λ t. add (point i) (point t)) e ∙ add_self (point i)) ∙ zero-mul (others_product point j n (point i)))
      | inr other ↦
          let below : others_product point j n (point i) ≡ 0 = others_product-other point j n i (omega arith) ne in
          elim (n == j) as (λ b. cond b (others_product point j n (point i)) (mul (add (point i) (point n)) (others_product point j n (point i))) ≡ 0) [
            | true ↦ below
            | false ↦ ap (mul (add (point i) (point n))) below ∙ mul-zero (add (point i) (point n))
          ]
    ]

pub others_product-lt : (point : ℕ → ℕ) (j n x : ℕ) → others_product point j n x < 256
unfolding others_product
others_product-lt point j zero x = omega arith
others_product-lt point j (suc n) x =
    elim (n == j) as (λ b. cond b (others_product point j n x) (mul (add x (point n)) (others_product point j n x)) < 256) [
      | true ↦ others_product-lt point j n x
      | false ↦ mul-lt (add x (point n)) (others_product point j n x)
    ]

-- it is not 0 where x is none of the other points
pub others_product-self : (point : ℕ → ℕ) (j n x : ℕ) → x < 256 → ((i : ℕ) → i < n → point i < 256) → ((i : ℕ) → i < n → i ≢ j → x ≢ point i)
    → others_product point j n x ≢ 0
unfolding others_product
others_product-self point j zero x byte small apart h = cc
others_product-self point j (suc n) x byte small apart h =
    let below : others_product point j n x ≢ 0 = others_product-self point j n x byte (λ i h. small i (omega arith)) (λ i h. apart i (omega arith)) in
    elim (cases_eq n j) [
      | inl e ↦ let t : (n == j) ≡ true = eq-eqb n j e in below (rw t at h)
      | inr ne ↦
          let t : (n == j) ≡ false = ne_eqb n j ne in
          below (zero_from_mul (add x (point n)) (others_product point j n x) (add-lt x (point n) byte (small n (omega arith)))
          (others_product-lt point j n x) (λ z. apart n (omega arith) ne (same_from_add x (point n) z)) (rw t at h))
    ]

-- ---- sums with weights
pub weighted_sum_by_zeros : (w v : ℕ → ℕ) (n : ℕ) → ((j : ℕ) → j < n → w j ≡ 0) → weighted_sum w v n ≡ 0
unfolding weighted_sum
weighted_sum_by_zeros w v zero h = refl
weighted_sum_by_zeros w v (suc n) h =
    ap₂ add (weighted_sum_by_zeros w v n (λ j l. h j (omega arith))) (ap (λ t. mul t (v n)) (h n (omega arith)) ∙ zero-mul (v n)) ∙ zero_add 0

-- one weight is 1, and the others are 0
pub weighted_sum_at : (w v : ℕ → ℕ) (i n : ℕ) → i < n → v i < 256 → w i ≡ 1 → ((j : ℕ) → j < n → j ≢ i → w j ≡ 0) → weighted_sum w v n ≡ v i
unfolding weighted_sum
weighted_sum_at w v i zero h byte one zeros = absurd (omega arith)
weighted_sum_at w v i (suc n) h byte one zeros =
    elim (cases_lt i n) [
      | inl low ↦
          ap₂ add (weighted_sum_at w v i n low byte one (λ j l. zeros j (omega arith))) (ap (λ t. mul t (v n)) (zeros n (omega arith) (λ e. omega arith)) ∙ zero-mul (v n)) ∙ add_zero (v i)
      | inr high ↦
          let e : i ≡ n = omega arith in
          ap₂ add (weighted_sum_by_zeros w v n (λ j l. zeros j (omega arith) (λ f. omega arith)))
          (ap (λ k. mul (w k) (v k)) (sym e) ∙ ap (λ t. mul t (v i)) one ∙ one-mul (v i) byte) ∙ zero_add (v i)
    ]

pub weighted_sum_same : (w w' v v' : ℕ → ℕ) (n : ℕ) → ((j : ℕ) → j < n → w j ≡ w' j) → ((j : ℕ) → j < n → v j ≡ v' j) → weighted_sum w v n ≡ weighted_sum w' v' n
unfolding weighted_sum
weighted_sum_same w w' v v' zero p q = refl
weighted_sum_same w w' v v' (suc n) p q =
    ap₂ add (weighted_sum_same w w' v v' n (λ j l. p j (omega arith)) (λ j l. q j (omega arith))) (ap₂ mul (p n (omega arith)) (q n (omega arith)))

-- ---- the polynomial through the values
unfoldable pub interpolated : (ℕ → ℕ) → (ℕ → ℕ) → ℕ → ℕ → List ℕ
interpolated point value n zero = []
interpolated point value n (suc m) =
    sum_of (interpolated point value n m) (scaled (mul (value m) (inverse (others_product point m n (point m)))) (others point m n))

value_at-interpolated : (point value : ℕ → ℕ) (n m x : ℕ) → value_at (interpolated point value n m) x ≡ weighted_sum (λ j. weight_of point n j x) value m
unfolding interpolated value_at weighted_sum weight_of
value_at-interpolated point value n zero x = refl
value_at-interpolated point value n (suc m) x =
    let p : ℕ = others_product point m n x in
    let d : ℕ = inverse (others_product point m n (point m)) in
    value_at-sum_of (interpolated point value n m) (scaled (mul (value m) d) (others point m n)) x
    ∙ ap₂ add (value_at-interpolated point value n m x)
    (value_at-scaled (mul (value m) d) (others point m n) x ∙ ap (mul (mul (value m) d)) (value_at-others point m n x)
    ∙ mul_assoc (value m) d p ∙ mul_comm (value m) (mul d p) ∙ ap (λ t. mul t (value m)) (mul_comm d p))

pub IsBytes-interpolated : (point value : ℕ → ℕ) (n m : ℕ) → IsBytes (interpolated point value n m)
unfolding interpolated
IsBytes-interpolated point value n zero k = omega arith
IsBytes-interpolated point value n (suc m) k =
    let a : ℕ = mul (value m) (inverse (others_product point m n (point m))) in
    IsBytes-sum_of (interpolated point value n m) (scaled a (others point m n)) (IsBytes-interpolated point value n m) (IsBytes-scaled a (others point m n)) k

length-interpolated : (point value : ℕ → ℕ) (n m : ℕ) → m ≤ n → length (interpolated point value n m) ≤ n
unfolding interpolated
length-interpolated point value n zero h = omega arith
length-interpolated point value n (suc m) h =
    let a : ℕ = mul (value m) (inverse (others_product point m n (point m))) in
    omega (
      arith,
      length-sum_of (interpolated point value n m) (scaled a (others point m n)),
      length-interpolated point value n m (omega arith),
      length-scaled a (others point m n),
      length-others point m n (omega arith),
    )

pub length-interpolated_all : (point value : ℕ → ℕ) (n : ℕ) → length (interpolated point value n n) ≡ n
unfolding interpolated
length-interpolated_all point value zero = refl
length-interpolated_all point value (suc m) =
    let a : ℕ = mul (value m) (inverse (others_product point m (suc m) (point m))) in
    omega (
      arith,
      length-sum_of (interpolated point value (suc m) m) (scaled a (others point m (suc m))),
      length-interpolated point value (suc m) m (omega arith),
      length-scaled a (others point m (suc m)),
      length-others point m (suc m) (omega arith),
    )

-- ---- points that differ
pub record AreApart (point : ℕ → ℕ) (n : ℕ) : Type 0 where
  pub small : (i : ℕ) → i < n → point i < 256
  pub apart : (i j : ℕ) → i < j → j < n → point i ≢ point j

two_apart : (point : ℕ → ℕ) (n i j : ℕ) → AreApart point n → i < n → j < n → i ≢ j → point i ≢ point j
two_apart point n i j a p q ne =
    elim (cases_lt i j) [ inl below ↦ a.apart i j below q | inr above ↦ λ e. a.apart j i (omega arith) p (sym e) ]

pub others_product-own : (point : ℕ → ℕ) (n i : ℕ) → AreApart point n → i < n → others_product point i n (point i) ≢ 0
others_product-own point n i a h =
    others_product-self point i n (point i) (a.small i h) a.small (λ j l ne e. two_apart point n j i a l h ne (sym e))

weight_of-self : (point : ℕ → ℕ) (n i : ℕ) → AreApart point n → i < n → weight_of point n i (point i) ≡ 1
unfolding weight_of
weight_of-self point n i a h =
    (mul-inverse (others_product point i n (point i)) (others_product-own point n i a h) (others_product-lt point i n (point i))).0

weight_of-other : (point : ℕ → ℕ) (n i j : ℕ) → i < n → i ≢ j → weight_of point n j (point i) ≡ 0
unfolding weight_of
weight_of-other point n i j h ne =
    ap (λ t. mul t (inverse (others_product point j n (point j)))) (others_product-other point j n i h ne) ∙ zero-mul (inverse (others_product point j n (point j)))

pub value_at-interpolated_point : (point value : ℕ → ℕ) (n i : ℕ) → AreApart point n → i < n → value i < 256 → value_at (interpolated point value n n) (point i) ≡ value i
value_at-interpolated_point point value n i a h byte =
    value_at-interpolated point value n n (point i)
    ∙ weighted_sum_at (λ j. weight_of point n j (point i)) value i n h byte (weight_of-self point n i a h)
    (λ j l ne. weight_of-other point n i j h (λ e. ne (sym e)))

-- the value elsewhere, by the weights
pub value_by_weights : (point : ℕ → ℕ) (n : ℕ) (cs : List ℕ) (x : ℕ) → AreApart point n → IsBytes cs → length cs ≤ n
    → value_at cs x ≡ weighted_sum (λ j. weight_of point n j x) (λ i. value_at cs (point i)) n
value_by_weights point n cs x a bytes short =
    let value : ℕ → ℕ = λ i. value_at cs (point i) in
    same_value_from_points n cs (interpolated point value n n) point short
    (length-interpolated point value n n (omega arith))
    bytes (IsBytes-interpolated point value n n) a.small a.apart
    (λ i h. sym (value_at-interpolated_point point value n i a h (value_at-lt cs (point i) bytes))) x
    ∙ value_at-interpolated point value n n x
