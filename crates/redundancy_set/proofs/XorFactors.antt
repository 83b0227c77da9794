-- With all factors 1 the other bytes of a column of the sum 0 give the target's.
use Rattle.std.proofs.Common.{◌≡◌, ◌≢◌, ℕ, zero, suc, ◌+◌, ◌-◌, ◌<◌, ◌≤◌, List, length, get_or, set, take, replicate, slice_index, refl, sym, ap, ap₂, ◌∙◌, arith}
use Rattle.std.proofs.lemmas.List.{get_or-set_same, get_or-set_other, length-set, take_all, get_or-replicate, length-replicate}
use Rattle.scr_base.specs.declared.shape.Scheme.TheVariants.{Xor}
use Rattle.gf256.specs.Field.{add, mul}
use Rattle.gf256.proofs.Linear.{add_self, add_zero}
use Rattle.gf256.proofs.FieldLemmas.{one-mul}
use Rattle.poly_code.specs.Polynomial.{weighted_sum}
use Rattle.xor_segments.specs.Column.{xor_of}
use Rattle.xor_segments.proofs.Sums.{xor_of-take_suc, xor_of-set}
use Rattle.member_shares.proofs.Columns.{xor_fixed}
use Rattle.redundancy_set.specs.Sums.{ArePlaces, AreFactors}

-- ---- all members but the target are there
climbs : (n count target : ℕ) (places : List ℕ) → ArePlaces n count target places → (j d : ℕ) → j + d < length places → slice_index places j + d ≤ slice_index places (j + d)
climbs n count target places a j zero h = let e : j + 0 ≡ j = omega arith in rw e (omega arith)
climbs n count target places a j (suc d) h =
    let before = climbs n count target places a j d (omega arith) in
    let step = a.ascend (j + d) (j + suc d) (omega arith) h in
    omega (arith, before, step)

place_below : (n target : ℕ) (places : List ℕ) → ArePlaces n (n - 1) target places → target < n → (j : ℕ) → j < target → slice_index places j ≡ j
place_below n target places a h j l =
    let first = climbs n (n - 1) target places a 0 j (omega (arith, a.size)) in
    let next = climbs n (n - 1) target places a j (target - 1 - j) (omega (arith, a.size)) in
    let last = climbs n (n - 1) target places a (target - 1) (n - 1 - target) (omega (arith, a.size)) in
    let up : j + (target - 1 - j) ≡ target - 1 = omega arith in
    let top : target - 1 + (n - 1 - target) ≡ n - 2 = omega arith in
    let low : 0 + j ≡ j = omega arith in
    let end = a.below (n - 2) (omega (arith, a.size)) in
    let other = a.others (target - 1) (omega (arith, a.size)) in
    let first' = rw low at first in
    let next' = rw up at next in
    let last' = rw top at last in
    omega (arith, first', next', last', end, other)

place_above : (n target : ℕ) (places : List ℕ) → ArePlaces n (n - 1) target places → target < n → (j : ℕ) → target ≤ j → j < n - 1 → slice_index places j ≡ j + 1
place_above n target places a h j ge l =
    let first = climbs n (n - 1) target places a 0 target (omega (arith, a.size)) in
    let next = climbs n (n - 1) target places a target (j - target) (omega (arith, a.size)) in
    let last = climbs n (n - 1) target places a j (n - 2 - j) (omega (arith, a.size)) in
    let low : 0 + target ≡ target = omega arith in
    let up : target + (j - target) ≡ j = omega arith in
    let top : j + (n - 2 - j) ≡ n - 2 = omega arith in
    let end = a.below (n - 2) (omega (arith, a.size)) in
    let other = a.others target (omega (arith, a.size)) in
    let first' = rw low at first in
    let next' = rw up at next in
    let last' = rw top at last in
    omega (arith, first', next', last', end, other)

-- ---- the sum, member by member
abbrev pub sum_at : (factors bytes places : List ℕ) → ℕ → ℕ
sum_at factors bytes places k = weighted_sum (slice_index factors) (λ j. slice_index bytes (slice_index places j)) k

-- the column without the target's byte
abbrev pub without : List ℕ → ℕ → List ℕ
without bytes target = set bytes target 0

-- the places and factors of a sum of all but the target
pub record AreOthers (n target : ℕ) (places factors bytes : List ℕ) : Type 0 where
  pub ordered : ArePlaces n (n - 1) target places
  pub within : target < n
  pub ones : (j : ℕ) → j < n - 1 → slice_index factors j ≡ 1
  pub count : length bytes ≡ n
  pub small : (j : ℕ) → j < n - 1 → slice_index bytes (slice_index places j) < 256

term : (n target : ℕ) (places factors bytes : List ℕ) → AreOthers n target places factors bytes → (k m : ℕ) → k < n - 1 → slice_index places k ≡ m → m ≢ target
    → mul (slice_index factors k) (slice_index bytes (slice_index places k)) ≡ get_or (without bytes target) m 0
term n target places factors bytes o k m h is other =
    ap (λ t. mul t (slice_index bytes (slice_index places k))) (o.ones k h)
    ∙ one-mul (slice_index bytes (slice_index places k)) (o.small k h)
    ∙ ap (slice_index bytes) is
    ∙ sym (get_or-set_other bytes target m 0 0 other)

sum_below_target : (n target : ℕ) (places factors bytes : List ℕ) → AreOthers n target places factors bytes → (k : ℕ) → k ≤ target → k ≤ n - 1
    → sum_at factors bytes places k ≡ xor_of (take k (without bytes target))
unfolding weighted_sum xor_of
sum_below_target n target places factors bytes o zero h l = refl
sum_below_target n target places factors bytes o (suc k) h l =
    ap₂ add (sum_below_target n target places factors bytes o k (omega arith) (omega arith))
    (term n target places factors bytes o k k (omega arith) (place_below n target places o.ordered o.within k (omega arith)) (λ e. omega arith))
    ∙ sym (xor_of-take_suc (without bytes target) k (omega (arith, length-set bytes target 0, o.count, o.within)))

sum_past_target : (n target : ℕ) (places factors bytes : List ℕ) → AreOthers n target places factors bytes → (d : ℕ) → target + d ≤ n - 1
    → sum_at factors bytes places (target + d) ≡ xor_of (take (suc (target + d)) (without bytes target))
unfolding weighted_sum
sum_past_target n target places factors bytes o zero h =
    let e : target + 0 ≡ target = omega arith in
    rw e
    (sum_below_target n target places factors bytes o target (omega arith) (omega arith)
    ∙ sym (add_zero (xor_of (take target (without bytes target))))
    ∙ ap (add (xor_of (take target (without bytes target)))) (sym (get_or-set_same bytes target 0 0 (omega (arith, o.count, o.within))))
    ∙ sym (xor_of-take_suc (without bytes target) target (omega (arith, length-set bytes target 0, o.count, o.within))))
sum_past_target n target places factors bytes o (suc d) h =
    let k : ℕ = target + d in
    let e : target + suc d ≡ suc k = omega arith in
    let at : slice_index places k ≡ suc k = place_above n target places o.ordered o.within k (omega arith) (omega arith) ∙ omega arith in
    rw e
    (ap₂ add (sum_past_target n target places factors bytes o d (omega arith))
    (term n target places factors bytes o k (suc k) (omega arith) at (λ f. omega arith))
    ∙ sym (xor_of-take_suc (without bytes target) (suc k) (omega (arith, length-set bytes target 0, o.count, o.within))))

others_sum : (n target : ℕ) (places factors bytes : List ℕ) → AreOthers n target places factors bytes → sum_at factors bytes places (n - 1) ≡ xor_of (without bytes target)
others_sum n target places factors bytes o =
    let e : target + (n - 1 - target) ≡ n - 1 = omega (arith, o.within) in
    let s = sum_past_target n target places factors bytes o (n - 1 - target) (omega (arith, o.within)) in
    (rw e at s) ∙ ap xor_of (take_all (suc (n - 1)) (without bytes target) (omega (arith, length-set bytes target 0, o.count)))

pub ones_are_factors : (n target : ℕ) (places factors : List ℕ) → target < n → ArePlaces n (n - 1) target places → factors ≡ replicate (length places) 1
    → AreFactors Xor n places target factors
ones_are_factors n target places factors h a is = record {
  size = ap (length {A = ℕ}) is ∙ length-replicate (length places) 1;
  value = λ bytes count right small.
      let o : AreOthers n target places factors bytes = record {
        ordered = a;
        within = h;
        ones = λ j l. ap (λ xs. slice_index xs j) is ∙ get_or-replicate (length places) j 1 0 (omega (arith, a.size));
        count = count;
        small = λ j l. small j (omega (arith, a.size));
      } in
      let total : ℕ = sum_at factors bytes places (n - 1) in
      let whole : xor_of (set bytes target total) ≡ 0 =
      xor_of-set bytes target total (omega (arith, count)) ∙ ap (add total) (sym (others_sum n target places factors bytes o)) ∙ add_self total in
      xor_fixed bytes (set bytes target total) target (sym (length-set bytes target total)) (omega (arith, count)) (right ∙ sym whole)
      (λ i l other. sym (get_or-set_other bytes target i total 0 other))
      ∙ get_or-set_same bytes target total 0 (omega (arith, count))
      ∙ ap (sum_at factors bytes places) (sym a.size);
}
