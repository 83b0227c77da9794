-- The weights and the filled values, over lists.
use Rattle.std.proofs.Common.{◌≡◌, ◌≢◌, ℕ, zero, suc, ◌<◌, ◌≤◌, List, [], ◌∷◌, length, slice_index, take, length-take, get_or-take, refl, sym, ap, ◌∙◌, arith}
use Rattle.gf256.specs.Field.{mul}
use Rattle.gf256.proofs.FieldLemmas.{inverse_unique}
use Rattle.poly_code.specs.Polynomial.{value_at, IsBytes, weighted_sum, AreDistinct}
use Rattle.poly_code.specs.Code.{IsWeights, IsFilled}
use Rattle.poly_code.specs.Lagrange.{others_product, weight_of}
use Rattle.poly_code.proofs.Lagrange.{AreApart, others_product-lt, others_product-own, weighted_sum_same, value_by_weights, interpolated, IsBytes-interpolated, length-interpolated_all, value_at-interpolated_point}

pub apart_from_distinct : (points : List ℕ) (n : ℕ) → ((i : ℕ) → slice_index points i < 256) → AreDistinct points n → AreApart (slice_index points) n
apart_from_distinct points n small distinct = record { small = λ i h. small i; apart = distinct }

pub bottom_not_zero : (points : List ℕ) (j : ℕ) → ((i : ℕ) → slice_index points i < 256) → AreDistinct points (length points) → j < length points
    → others_product (slice_index points) j (length points) (slice_index points j) ≢ 0
bottom_not_zero points j small distinct h =
    others_product-own (slice_index points) (length points) j (apart_from_distinct points (length points) small distinct) h

pub weight_of_is : (point : ℕ → ℕ) (n j x d : ℕ) → d < 256 → mul (others_product point j n (point j)) d ≡ 1 → mul (others_product point j n x) d ≡ weight_of point n j x
unfolding weight_of
weight_of_is point n j x d byte e =
    ap (mul (others_product point j n x)) (inverse_unique (others_product point j n (point j)) d (others_product-lt point j n (point j)) byte e)

pub IsWeights-from : (points ws : List ℕ) (x : ℕ) → ((i : ℕ) → slice_index points i < 256) → AreDistinct points (length points) → length ws ≡ length points
    → ((k : ℕ) → k < length points → slice_index ws k ≡ weight_of (slice_index points) (length points) k x) → IsWeights points x ws
IsWeights-from points ws x small distinct count each = record {
  count = count;
  value = λ cs bytes short.
      value_by_weights (slice_index points) (length points) cs x (apart_from_distinct points (length points) small distinct) bytes short
      ∙ weighted_sum_same (λ j. weight_of (slice_index points) (length points) j x) (slice_index ws) (λ i. value_at cs (slice_index points i)) (λ i. value_at cs (slice_index points i)) (length points)
      (λ j h. sym (each j h)) (λ j h. refl);
}

-- the polynomial through the values
abbrev pub through : List ℕ → List ℕ → List ℕ
through points values = interpolated (slice_index points) (slice_index values) (length points) (length points)

pub weighted_sum_is : (points values ws : List ℕ) (x : ℕ) → ((i : ℕ) → slice_index points i < 256) → ((i : ℕ) → slice_index values i < 256) → AreDistinct points (length points)
    → IsWeights points x ws → weighted_sum (slice_index ws) (slice_index values) (length ws) ≡ value_at (through points values) x
weighted_sum_is points values ws x small bytes distinct w =
    let n : ℕ = length points in
    let a = apart_from_distinct points n small distinct in
    ap (weighted_sum (slice_index ws) (slice_index values)) w.count
    ∙ weighted_sum_same (slice_index ws) (slice_index ws) (slice_index values) (λ k. value_at (through points values) (slice_index points k)) n
    (λ j h. refl) (λ j h. sym (value_at-interpolated_point (slice_index points) (slice_index values) n j a h (bytes j)))
    ∙ sym (w.value (through points values) (IsBytes-interpolated (slice_index points) (slice_index values) n n)
    (let e = length-interpolated_all (slice_index points) (slice_index values) n in omega (arith, e)))

pub bytes-take : (n : ℕ) (xs : List ℕ) → IsBytes xs → IsBytes (take n xs)
bytes-take zero xs h k = omega arith
bytes-take (suc n) [] h k = omega arith
bytes-take (suc n) (x ∷ xs) h zero = h 0
bytes-take (suc n) (x ∷ xs) h (suc k) = bytes-take n xs (λ i. h (suc i)) k

pub index-take : (n : ℕ) (xs : List ℕ) (k : ℕ) → k < n → slice_index (take n xs) k ≡ slice_index xs k
index-take n xs k h = get_or-take n xs k 0 h

pub length-take_all : (n : ℕ) (xs : List ℕ) → n ≤ length xs → length (take n xs) ≡ n
length-take_all n xs h = omega (arith, length-take n xs)

pub distinct-take : (n : ℕ) (points : List ℕ) → n ≤ length points → AreDistinct points (length points) → AreDistinct (take n points) (length (take n points))
distinct-take n points h distinct i j p q e =
    let l = length-take_all n points h in
    distinct i j p (omega (arith, l))
    (sym (index-take n points i (omega (arith, l))) ∙ e ∙ index-take n points j (omega (arith, l)))

pub IsFilled-from : (n : ℕ) (points values wanted answer : List ℕ) → IsBytes points → IsBytes values → n ≤ length points → AreDistinct points (length points)
    → length answer ≡ length wanted
    → ((k : ℕ) → k < length wanted → slice_index answer k ≡ value_at (through (take n points) (take n values)) (slice_index wanted k))
    → IsFilled n points values wanted answer
IsFilled-from n points values wanted answer small bytes h distinct count each =
    let front = take n points in
    let known = take n values in
    let l : length front ≡ n = length-take_all n points h in
    let a = apart_from_distinct front (length front) (bytes-take n points small) (distinct-take n points h distinct) in
    record {
      coefs = through front known;
      bytes = IsBytes-interpolated (slice_index front) (slice_index known) (length front) (length front);
      count = length-interpolated_all (slice_index front) (slice_index known) (length front) ∙ l;
      through = λ k p.
          ap (value_at (through front known)) (sym (index-take n points k p))
          ∙ value_at-interpolated_point (slice_index front) (slice_index known) (length front) k a (omega (arith, l)) (bytes-take n values bytes k)
          ∙ index-take n values k p;
      answer_count = count;
      answer_value = each;
    }
