-- The value by coefficients from the highest down.
use Rattle.std.proofs.Common.{◌≡◌, ℕ, suc, zero, ◌+◌, ◌-◌, ◌<◌, ◌≤◌, List, [], ◌∷◌, length, get_or, drop, drop-cons, add-one, refl, arith, ◌≢◌, ◌==◌, true, false}
use Rattle.std.proofs.lemmas.Bool.{eq-eqb, ne_eqb}
use Rattle.gf256.specs.Field.{add, mul}
use Rattle.poly_code.specs.Polynomial.{value_at, weighted_sum}
use Rattle.poly_code.specs.Lagrange.{others_product}

pub value_at_step : (cs : List ℕ) (x i : ℕ) → 0 < i → i ≤ length cs → value_at (drop (i - 1) cs) x ≡ add (get_or cs (i - 1) 0) (mul x (value_at (drop i cs) x))
unfolding value_at
value_at_step cs x zero p h = absurd (omega arith)
value_at_step cs x (suc i) p h = let e : suc i - 1 ≡ i = omega arith in rw (e, drop-cons cs i 0) refl

pub value_at_end : (cs : List ℕ) (x : ℕ) → value_at (drop (length cs) cs) x ≡ 0
unfolding value_at
value_at_end [] x = refl
value_at_end (c ∷ cs) x = value_at_end cs x

pub ruleset value_steps = (value_at_step, value_at_end)

pub product_step : (point : ℕ → ℕ) (j n x : ℕ) → n ≢ j → others_product point j (n + 1) x ≡ mul (add x (point n)) (others_product point j n x)
unfolding others_product
product_step point j n x ne = let t : (n == j) ≡ false = ne_eqb n j ne in rw (add-one, t) refl

pub product_skip : (point : ℕ → ℕ) (j n x : ℕ) → n ≡ j → others_product point j (n + 1) x ≡ others_product point j n x
unfolding others_product
product_skip point j n x e = let t : (n == j) ≡ true = eq-eqb n j e in rw (add-one, t) refl

pub product_none : (point : ℕ → ℕ) (j x : ℕ) → others_product point j 0 x ≡ 1
unfolding others_product
product_none point j x = refl

pub ruleset product_steps = (product_step, product_skip, product_none)

pub weighted_sum_step : (w v : ℕ → ℕ) (n : ℕ) → weighted_sum w v (n + 1) ≡ add (weighted_sum w v n) (mul (w n) (v n))
unfolding weighted_sum
weighted_sum_step w v n = rw add-one refl

pub weighted_sum_none : (w v : ℕ → ℕ) → weighted_sum w v 0 ≡ 0
unfolding weighted_sum
weighted_sum_none w v = refl

pub ruleset weighted_sum_steps = (weighted_sum_step, weighted_sum_none)
