-- Roots, and what a few values fix.
use Rattle.std.specs.Prelude.{◌≡◌, ℕ, ◌<◌, ◌≤◌, List, length, slice_index}
use Rattle.poly_code.specs.Polynomial.{value_at, IsBytes, AreDistinct}
use Rattle.poly_code.specs.Code.{IsColumn}

-- two lists have the same bytes at these places
pub record AgreeAt (places xs ys : List ℕ) : Type 0 where
  pub within_left : (k : ℕ) → k < length places → slice_index places k < length xs
  pub within_right : (k : ℕ) → k < length places → slice_index places k < length ys
  pub same : (k : ℕ) → k < length places → slice_index xs (slice_index places k) ≡ slice_index ys (slice_index places k)

pub record PolynomialLaws : Type 0 where
  -- a polynomial with as many different roots as coefficients is 0
  pub roots : (cs points : List ℕ) → IsBytes cs → IsBytes points → AreDistinct points (length points) → length cs ≤ length points
      → ((i : ℕ) → i < length points → value_at cs (slice_index points i) ≡ 0) → (k : ℕ) → slice_index cs k ≡ 0
  -- as many values as coefficients fix a polynomial
  pub one : (cs ds points : List ℕ) → IsBytes cs → IsBytes ds → IsBytes points → AreDistinct points (length points) → length cs ≡ length ds → length cs ≤ length points
      → ((i : ℕ) → i < length points → value_at cs (slice_index points i) ≡ value_at ds (slice_index points i)) → cs ≡ ds
  -- and a column
  pub column : (degree : ℕ) (places xs ys : List ℕ) → IsColumn degree xs → IsColumn degree ys → length xs ≡ length ys → length xs ≤ 256
      → AreDistinct places (length places) → degree ≤ length places → AgreeAt places xs ys → xs ≡ ys
