use Rattle.std.proofs.Common.{◌≡◌, ℕ, ◌≤◌, List, length, slice_index, arith, sym, ◌∙◌}
use Rattle.std.proofs.lemmas.List.{ext_get_or}
use Rattle.poly_code.specs.Polynomial.{AreDistinct}
use Rattle.poly_code.specs.Code.{IsColumn}
use Rattle.poly_code.specs.Laws.{AgreeAt}
use Rattle.poly_code.proofs.Roots.{zero_from_roots}
use Rattle.poly_code.proofs.Same.{same_from_points, same_value_from_points}
use Rattle.poly_code.proofs.polynomial_laws.Goals as goal

column_same : (degree : ℕ) (places xs ys : List ℕ) → IsColumn degree xs → IsColumn degree ys → length xs ≡ length ys → length xs ≤ 256
    → AreDistinct places (length places) → degree ≤ length places → AgreeAt places xs ys → xs ≡ ys
column_same degree places xs ys p q len most distinct enough agree =
    let values = same_value_from_points (length places) p.coefs q.coefs (slice_index places) (omega (arith, p.count)) (omega (arith, q.count)) p.small q.small
    (λ i h. omega (arith, agree.within_left i h)) distinct
    (λ i h. sym (p.value (slice_index places i) (agree.within_left i h)) ∙ agree.same i h ∙ q.value (slice_index places i) (agree.within_right i h)) in
    ext_get_or 0 xs ys len (λ i h. p.value i h ∙ values i ∙ sym (q.value i (omega arith)))

pub returns : goal.returns
returns c = record {
  roots = λ cs points bytes small distinct short zeros. zero_from_roots (length points) cs (slice_index points) short bytes (λ i h. small i) distinct zeros;
  one = λ cs ds points p q small distinct len short agree.
      ext_get_or 0 cs ds len (λ k h. same_from_points (length points) cs ds (slice_index points) short (omega arith) p q (λ i h. small i) distinct agree k);
  column = column_same;
}
