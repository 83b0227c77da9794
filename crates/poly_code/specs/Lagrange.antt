-- Lagrange's polynomials, which are 1 at one of some points and 0 at the others. Only private functions cite them.
use Rattle.std.specs.Prelude.{ℕ, zero, suc, ◌==◌, cond}
use Rattle.gf256.specs.Field.{add, mul, inverse}

-- the product of x - point i over each i below n but j
unfoldable pub others_product : (ℕ → ℕ) → ℕ → ℕ → ℕ → ℕ
others_product point j zero x = 1
others_product point j (suc n) x = cond (n == j) (others_product point j n x) (mul (add x (point n)) (others_product point j n x))

-- the weight of point j at x: 1 at that point, and 0 at each other one of the first n
unfoldable pub weight_of : (ℕ → ℕ) → ℕ → ℕ → ℕ → ℕ
weight_of point n j x = mul (others_product point j n x) (inverse (others_product point j n (point j)))
