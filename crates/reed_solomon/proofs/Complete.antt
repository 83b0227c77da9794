-- The segments that are copied and those that are summed up make a stripe of columns.
use Rattle.std.proofs.Common.{◌≡◌, ◌≢◌, ℕ, zero, suc, ◌<◌, ◌≤◌, List, [], length, get_or, slice_index, slice_index_or, Option, Some, None, Bool, take, length-take, refl, sym, ap, ◌∙◌, subst, arith, inl, inr, ◌⊎◌}
use Rattle.std.proofs.Math.ListN.{get_or-map, get_or-eq_default}
use Rattle.std.proofs.lemmas.Bool.{cases_eq, cases_lt}
use Rattle.std.proofs.lemmas.List.{length-map, get_or-take}
use Rattle.std.specs.Option.{IsSome, IfSome, unwrap_or}
use Rattle.lane_kernels.specs.Columns.{column_at}
use Rattle.poly_code.specs.Polynomial.{value_at, IsBytes, weighted_sum}
use Rattle.poly_code.specs.Code.{IsWeights}
use Rattle.poly_code.proofs.Lagrange.{AreApart, interpolated, IsBytes-interpolated, length-interpolated_all, value_at-interpolated_point, weighted_sum_same}
use Rattle.reed_solomon.specs.Stripe.{known_places, is_known, segment_of, AreOfOneLength, IsStripe, IsCompleted, IsRebuilt, AreFactors, IsSegment, ArePlaces}
use Rattle.scr_base.proofs.Chosen.{chosen_passes, chosen_below, chosen_ascends}

-- one of the first n is the target, or none
find : (xs : List ℕ) (target n : ℕ) → ((j : ℕ) × (j < n) × (slice_index xs j ≡ target)) ⊎ ((j : ℕ) → j < n → slice_index xs j ≢ target)
find xs target zero = inr (λ j h e. omega arith)
find xs target (suc n) =
    elim (find xs target n) [
      | inl found ↦ inl (found.0, omega (arith, found.1), found.2)
      | inr none ↦
          elim (cases_eq (slice_index xs n) target) [
            | inl same ↦ inl (n, omega arith, same)
            | inr other ↦
                inr (λ j h.
                elim (cases_eq j n) [ inl e ↦ rw e other | inr ne ↦ none j (omega arith) ])
          ]
    ]

-- the known byte at b of the segment at place j of the places
abbrev pub known_byte : List (Option (List ℕ)) → List ℕ → ℕ → ℕ → ℕ
known_byte known places b j = slice_index (segment_of known (slice_index places j)) b

-- the coefficients of the polynomial through the known bytes at b
abbrev pub coefs_at : List (Option (List ℕ)) → List ℕ → ℕ → List ℕ
coefs_at known places b = interpolated (slice_index places) (known_byte known places b) (length places) (length places)

weighed_value : (known : List (Option (List ℕ))) (places ws : List ℕ) (t b : ℕ) → AreApart (slice_index places) (length places)
    → ((j : ℕ) → j < length places → known_byte known places b j < 256) → IsWeights places t ws
    → weighted_sum (slice_index ws) (known_byte known places b) (length places) ≡ value_at (coefs_at known places b) t
weighed_value known places ws t b apart small w =
    let n : ℕ = length places in
    let count = length-interpolated_all (slice_index places) (known_byte known places b) n in
    weighted_sum_same (slice_index ws) (slice_index ws) (known_byte known places b) (λ k. value_at (coefs_at known places b) (slice_index places k)) n
    (λ j h. refl) (λ j h. sym (value_at-interpolated_point (slice_index places) (known_byte known places b) n j apart h (small j h)))
    ∙ sym (w.value (coefs_at known places b) (IsBytes-interpolated (slice_index places) (known_byte known places b) n n) (omega (arith, count)))

segment_byte : (known : List (Option (List ℕ))) (places segment : List ℕ) (t b : ℕ) → AreApart (slice_index places) (length places)
    → ((j : ℕ) → j < length places → known_byte known places b j < 256) → IsSegment known places t segment → b < length segment
    → slice_index segment b ≡ value_at (coefs_at known places b) t
segment_byte known places segment t b apart small s h =
    elim (find places t (length places)) [
      | inl found ↦
          let own = s.copied found.0 found.1 found.2 in
          ap (λ xs. slice_index xs b) own.0
          ∙ ap (λ p. slice_index (segment_of known p) b) (sym found.2)
          ∙ sym (value_at-interpolated_point (slice_index places) (known_byte known places b) (length places) found.0 apart found.1 (small found.0 found.1))
          ∙ ap (value_at (coefs_at known places b)) found.2
      | inr none ↦
          let w = s.weighed none in
          w.sum b h ∙ weighed_value known places w.weights t b apart small w.right
    ]

byte_of_column : (segments : List (List ℕ)) (b i : ℕ) → slice_index (column_at segments b) i ≡ slice_index (slice_index_or segments i []) b
byte_of_column segments b i = get_or-map (λ segment. slice_index segment b) segments i []

-- all segments together
pub completed_columns : (known : List (Option (List ℕ))) (places : List ℕ) (stripe : List (List ℕ)) → IsBytes places → ArePlaces known places → length stripe ≡ length known
    → ((i : ℕ) → i < length known → IsSegment known places i (slice_index_or stripe i []))
    → IsStripe (length places) (length (segment_of known (slice_index places 0))) stripe
completed_columns known places stripe places_small at count each =
    let len : ℕ = length (segment_of known (slice_index places 0)) in
    let apart : AreApart (slice_index places) (length places) = record { small = λ i h. places_small i; apart = at.distinct } in
    let small : (b j : ℕ) → j < length places → known_byte known places b j < 256 = λ b j h.
    let own = (each (slice_index places j) (at.within j h)).copied j h refl in
    subst (λ xs. slice_index xs b < 256) own.0 (own.1 b) in
    record {
      lengths = λ i h. (each i (omega (arith, count))).count;
      columns = λ b h. record {
        coefs = coefs_at known places b;
        small = IsBytes-interpolated (slice_index places) (known_byte known places b) (length places) (length places);
        count = length-interpolated_all (slice_index places) (known_byte known places b) (length places);
        value = λ i l.
            let m = length-map stripe (λ segment. slice_index segment b) in
            let low : i < length known = omega (arith, m, count) in
            let s = each i low in
            byte_of_column stripe b i ∙ segment_byte known places (slice_index_or stripe i []) i b apart (small b) s (omega (arith, s.count));
      };
    }

pub completed_kept : (known : List (Option (List ℕ))) (places : List ℕ) (stripe : List (List ℕ)) (j : ℕ) → ArePlaces known places → j < length places
    → ((i : ℕ) → i < length known → IsSegment known places i (slice_index_or stripe i []))
    → slice_index_or stripe (slice_index places j) [] ≡ segment_of known (slice_index places j)
completed_kept known places stripe j at h each = ((each (slice_index places j) (at.within j h)).copied j h refl).0

same_length : (a b : Option (List ℕ)) → IsSome a → IsSome b → IfSome a (λ s. IfSome b (λ t. length s ≡ length t)) → length (unwrap_or a []) ≡ length (unwrap_or b [])
same_length None b p q h = cc
same_length (Some s) None p q h = cc
same_length (Some s) (Some t) p q h = h

-- the first places of known segments
pub first_places : (known : List (Option (List ℕ))) (m : ℕ) → 0 < m → m ≤ length (known_places known) → AreOfOneLength known → ArePlaces known (take m (known_places known))
first_places known m some enough same =
    let p : ℕ → Bool = is_known known in
    let n : ℕ = length known in
    let count : length (take m (known_places known)) ≡ m = omega (arith, length-take m (known_places known)) in
    let below : (j : ℕ) → j < length (take m (known_places known)) → slice_index (take m (known_places known)) j < n = chosen_below p n m in
    let there : (j : ℕ) → j < length (take m (known_places known)) → IsSome (slice_index_or known (slice_index (take m (known_places known)) j) None) = chosen_passes p n m in
    record {
      some = omega (arith, count);
      within = below;
      known_there = there;
      distinct = λ i j h l e. omega (arith, chosen_ascends p n m i j h l);
      lengths = λ j h.
          let zero : 0 < length (take m (known_places known)) = omega (arith, count) in
          same_length (slice_index_or known (slice_index (take m (known_places known)) j) None) (slice_index_or known (slice_index (take m (known_places known)) 0) None)
          (there j h) (there 0 zero)
          (same (slice_index (take m (known_places known)) j) (slice_index (take m (known_places known)) 0) (below j h) (below 0 zero));
    }

IsBytes-places : (known : List (Option (List ℕ))) (places : List ℕ) → ArePlaces known places → length known < 256 → IsBytes places
IsBytes-places known places at few k =
    elim (cases_lt k (length places)) [
      | inl low ↦ omega (arith, at.within k low)
      | inr past ↦ let e : get_or places k 0 ≡ 0 = get_or-eq_default places 0 past in omega (arith, e)
    ]

pub completed : (known : List (Option (List ℕ))) (m : ℕ) (places : List ℕ) (stripe : List (List ℕ)) → places ≡ take m (known_places known) → length places ≡ m
    → ArePlaces known places → length known < 256 → length stripe ≡ length known
    → ((i : ℕ) → i < length known → IsSegment known places i (slice_index_or stripe i [])) → IsCompleted m known stripe
completed known m places stripe first size at few count each =
    let place_at : (j : ℕ) → j < m → slice_index (known_places known) j ≡ slice_index places j = λ j h.
    sym (get_or-take m (known_places known) j 0 h) ∙ ap (λ xs. slice_index xs j) (sym first) in
    let whole : IsStripe m (length (segment_of known (slice_index places 0))) stripe =
    subst (λ d. IsStripe d (length (segment_of known (slice_index places 0))) stripe) size (completed_columns known places stripe (IsBytes-places known places at few) at count each) in
    record {
      count = count;
      whole = λ j h.
          let same : length (segment_of known (slice_index places 0)) ≡ length (segment_of known (slice_index (known_places known) j)) =
          sym (at.lengths j (omega (arith, size))) ∙ ap (λ p. length (segment_of known p)) (sym (place_at j h)) in
          subst (λ len. IsStripe m len stripe) same whole;
      kept = λ j h.
          ap (λ p. slice_index_or stripe p []) (place_at j h) ∙ completed_kept known places stripe j at (omega (arith, size)) each
          ∙ ap (segment_of known) (sym (place_at j h));
    }

-- one segment is on each polynomial through the known bytes
through : (known : List (Option (List ℕ))) (places segment : List ℕ) (target b : ℕ) (coefs : List ℕ) → IsSegment known places target segment → b < length segment
    → IsBytes coefs → length coefs ≤ length places → ((j : ℕ) → j < length places → value_at coefs (slice_index places j) ≡ known_byte known places b j)
    → slice_index segment b ≡ value_at coefs target
through known places segment target b coefs s h small count agree =
    elim (find places target (length places)) [
      | inl found ↦
          let own = s.copied found.0 found.1 found.2 in
          ap (λ xs. slice_index xs b) own.0
          ∙ ap (λ p. slice_index (segment_of known p) b) (sym found.2)
          ∙ sym (agree found.0 found.1)
          ∙ ap (value_at coefs) found.2
      | inr none ↦
          let w = s.weighed none in
          w.sum b h
          ∙ weighted_sum_same (slice_index w.weights) (slice_index w.weights) (known_byte known places b) (λ k. value_at coefs (slice_index places k)) (length places)
          (λ j l. refl) (λ j l. sym (agree j l))
          ∙ sym (w.right.value coefs small count)
    ]

pub rebuilt : (known : List (Option (List ℕ))) (m : ℕ) (places : List ℕ) (target : ℕ) (segment : List ℕ) → places ≡ take m (known_places known) → length places ≡ m
    → ArePlaces known places → IsSegment known places target segment → IsRebuilt m known target segment
rebuilt known m places target segment first size at s =
    let place_at : (j : ℕ) → j < m → slice_index (known_places known) j ≡ slice_index places j = λ j h.
    sym (get_or-take m (known_places known) j 0 h) ∙ ap (λ xs. slice_index xs j) (sym first) in
    record {
      count = λ j h. s.count ∙ sym (at.lengths j (omega (arith, size))) ∙ ap (λ p. length (segment_of known p)) (sym (place_at j h));
      value = λ b h coefs small count agree.
          through known places segment target b coefs s h small (omega (arith, size, count))
          (λ j l.
          let low : j < m = omega (arith, size) in
          ap (value_at coefs) (sym (place_at j low)) ∙ agree j low ∙ ap (λ p. slice_index (segment_of known p) b) (place_at j low));
    }

-- weights for the value at the target are factors of each column
pub column_factors : (degree n : ℕ) (places : List ℕ) (target : ℕ) (weights : List ℕ) → length places ≡ degree → target < n
    → ((j : ℕ) → j < length places → slice_index places j < n) → IsWeights places target weights → AreFactors degree n places target weights
column_factors degree n places target weights size h below w = record {
  size = w.count;
  value = λ bytes count right.
      right.value target (omega (arith, count))
      ∙ w.value right.coefs right.small (omega (arith, size, right.count))
      ∙ weighted_sum_same (slice_index weights) (slice_index weights) (λ k. value_at right.coefs (slice_index places k)) (λ j. slice_index bytes (slice_index places j)) (length places)
      (λ j l. refl) (λ j l. sym (right.value (slice_index places j) (omega (arith, below j l, count))));
}

both_long : (len : ℕ) (a b : Option (List ℕ)) → IfSome a (λ s. length s ≡ len) → IfSome b (λ s. length s ≡ len)
    → IfSome a (λ s. IfSome b (λ t. length s ≡ length t))
both_long len None b p q = tt
both_long len (Some s) None p q = tt
both_long len (Some s) (Some t) p q = p ∙ sym q

-- segments that have this length have one length
pub one_length : (known : List (Option (List ℕ))) (len : ℕ) → ((i : ℕ) → i < length known → IfSome (slice_index_or known i None) (λ s. length s ≡ len))
    → AreOfOneLength known
one_length known len each = λ i j p q. both_long len (slice_index_or known i None) (slice_index_or known j None) (each i p) (each j q)
