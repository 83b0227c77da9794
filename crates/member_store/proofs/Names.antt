-- What a name tells: numbers and dots.
use Rattle.std.proofs.Common.{◌≡◌, ◌≢◌, ℕ, zero, suc, ◌<◌, ◌^◌, List, [], ◌∷◌, ◌++◌, length, take, drop, refl, sym, ap, ◌∙◌, subst, arith}
use Rattle.std.specs.Prelude.{decimal, IsTrue, nat_lt, slice_index}
use Rattle.std.proofs.lemmas.Bool.{ltb-true, lt-ltb}
use Rattle.std.proofs.lemmas.Fmt.{decimal_injective, decimal_is_IsNumeral}
use Rattle.std.specs.Str.Parse.{AllDigits}
use Rattle.std.specs.Char.{digit_value}

pub below : (m n : ℕ) → IsTrue (nat_lt m n) → m < n
below m n is = ltb-true m n is

pub is_below : (m k n : ℕ) → k < n → m ≡ k → IsTrue (nat_lt m n)
is_below m k n lt same = lt-ltb m n (omega (arith, lt, same))

pub numbers_same : (m n : ℕ) → m < 2 ^ 32 → n < 2 ^ 32 → decimal m ≡ decimal n → m ≡ n
numbers_same m n sm sn is = decimal_injective m n (omega (arith, sm)) (omega (arith, sn)) is

-- no byte of these is a dot
pub HasNoDot : List ℕ → Type 0
HasNoDot [] = Unit {0}
HasNoDot (b ∷ bs) = (b ≢ 46) × HasNoDot bs

pub head_same : (a b : ℕ) (x y : List ℕ) → a ∷ x ≡ b ∷ y → a ≡ b
head_same a b x y is = cc

tail_same : (a b : ℕ) (x y : List ℕ) → a ∷ x ≡ b ∷ y → x ≡ y
tail_same a b x y is = cc

-- a text falls into two at its first dot in one way
pub dot_splits : (a b xs ys : List ℕ) → HasNoDot a → HasNoDot b → a ++ 46 ∷ xs ≡ b ++ 46 ∷ ys → (a ≡ b) × (xs ≡ ys)
unfolding HasNoDot
dot_splits [] [] xs ys na nb is = (refl, tail_same 46 46 xs ys is)
dot_splits [] (y ∷ b) xs ys na nb is = absurd (nb.0 (sym (head_same 46 y xs (b ++ 46 ∷ ys) is)))
dot_splits (x ∷ a) [] xs ys na nb is = absurd (na.0 (head_same x 46 (a ++ 46 ∷ xs) ys is))
dot_splits (x ∷ a) (y ∷ b) xs ys na nb is =
    let later = dot_splits a b xs ys na.1 nb.1 (tail_same x y (a ++ 46 ∷ xs) (b ++ 46 ∷ ys) is) in
    let first = head_same x y (a ++ 46 ∷ xs) (b ++ 46 ∷ ys) is in
    (ap (λ (h : ℕ). h ∷ a) first ∙ ap (λ (t : List ℕ). y ∷ t) later.0, later.1)

digits_no_dot : (ds : List ℕ) → AllDigits 10 ds → HasNoDot ds
unfolding HasNoDot
digits_no_dot [] all = tt
digits_no_dot (d ∷ ds) all = (λ is. no_digit (subst (λ (x : ℕ). digit_value x < 10) is all.0), digits_no_dot ds all.1) where
  no_digit : digit_value 46 < 10 → ⊥
  no_digit lt = absurd (omega arith)

pub number_no_dot : (n : ℕ) → n < 2 ^ 32 → HasNoDot (decimal n)
number_no_dot n small = digits_no_dot (decimal n) (decimal_is_IsNumeral n (omega (arith, small))).0.1

-- what stands before the first dot has none
pub front_no_dot : (bs : List ℕ) (n : ℕ) → ((k : ℕ) → k < n → slice_index bs k ≢ 46) → HasNoDot (take n bs)
unfolding HasNoDot
front_no_dot [] zero none = tt
front_no_dot [] (suc n) none = tt
front_no_dot (b ∷ bs) zero none = tt
front_no_dot (b ∷ bs) (suc n) none = (none 0 (omega arith), front_no_dot bs n (λ k lt. none (suc k) (omega (arith, lt))))

-- a text is what stands before a place, the byte there, and what stands behind
pub at_place : (bs : List ℕ) (n : ℕ) → n < length bs → bs ≡ take n bs ++ slice_index bs n ∷ drop (suc n) bs
at_place [] n lt = absurd (omega (arith, lt))
at_place (b ∷ bs) zero lt = refl
at_place (b ∷ bs) (suc n) lt = ap (λ (l : List ℕ). b ∷ l) (at_place bs n (omega (arith, lt)))
