-- Which members a sum is over, and what it completes.
use Rattle.std.proofs.Common.{◌≡◌, ℕ, ◌+◌, ◌-◌, ◌<◌, ◌≤◌, not, Bool, true, false, List, [], ◌∷◌, ◌++◌, length, take, drop, replicate, slice_index, slice_index_or, Option, Some, None, refl, sym, ap, subst, ◌∙◌, arith, length-take, length-append, inl, inr}
use Rattle.std.specs.List.{filter}
use Rattle.std.specs.Option.{is_some, is_none}
use Rattle.std.proofs.lemmas.List.{take_all, get_or_append_left, get_or-append-add, get_or-replicate, length-replicate}
use Rattle.std.proofs.lemmas.Bool.{cases_lt}
use Rattle.std.proofs.lemmas.Grind.{common_steps}
use Rattle.gf256.specs.Field.{add}
use Rattle.gf256.proofs.Linear.{zero_add}
use Rattle.lane_kernels.specs.Lanes.{AddsWeighed}
use Rattle.scr_base.specs.declared.shape.Scheme.{Scheme}
use Rattle.scr_base.specs.declared.shape.Scheme.TheVariants.{Rs}
use Rattle.scr_base.specs.Sets.{numbers_below}
use Rattle.scr_base.proofs.Chosen.{chosen_passes, chosen_below, chosen_ascends}
use Rattle.poly_code.specs.Polynomial.{AreDistinct, weighted_sum}
use Rattle.poly_code.proofs.Lagrange.{weighted_sum_same}
use Rattle.poly_code.specs.Code.{IsColumn}
use Rattle.reed_solomon.specs.Stripe.{AreFactors as ColumnFactors}
use Rattle.partner_copy.specs.declared.Held.{Held}
use Rattle.member_shares.specs.Layout.{holds_parity}
use Rattle.member_shares.proofs.Ranks.{rank, has_rank}
use Rattle.member_shares.proofs.Places.{data_holders}
use Rattle.redundancy_set.specs.Known.{is_lost}
use Rattle.redundancy_set.specs.Recovered.{lost_places}
use Rattle.redundancy_set.specs.Sums.{ArePlaces, AreFactors, IsPart, AreParts, AppendsSum, AppendsCode, IsCodeSegment, has_data, is_there, data_byte}
use Rattle.redundancy_set.proofs.KnownLemmas.{rank_both}

apart : (b : Bool) → b ≡ true → b ≡ false → ⊥
apart b e f = cc

pub free_of : (b : Bool) → not b ≡ true → b ≡ false
free_of true e = cc
free_of false e = refl

-- members that pass a test, the target not among them
chosen_places : (q : ℕ → Bool) (n k target : ℕ) (places : List ℕ) → places ≡ take k (filter q (numbers_below n)) → k ≤ length (filter q (numbers_below n))
    → q target ≡ false → ArePlaces n k target places
chosen_places q n k target places is enough gone =
    subst (ArePlaces n k target) (sym is)
    (record {
      size = omega (arith, length-take k (filter q (numbers_below n)));
      below = chosen_below q n k;
      others = λ j h e. apart (q target) (sym (ap q e) ∙ chosen_passes q n k j h) gone;
      ascend = chosen_ascends q n k;
    })

data_taken : (n p s : ℕ) (places : List ℕ) → s < n → p ≤ n → places ≡ filter (has_data n p s) (numbers_below n)
    → places ≡ take (n - p) (filter (has_data n p s) (numbers_below n))
data_taken n p s places h few is =
    is ∙ sym (take_all (n - p) (filter (has_data n p s) (numbers_below n)) (omega (arith, data_holders n p s h few)))

pub data_places_are : (n p s target : ℕ) (places : List ℕ) → s < n → p ≤ n → holds_parity n p s target ≡ true
    → places ≡ filter (has_data n p s) (numbers_below n) → ArePlaces n (n - p) target places
data_places_are n p s target places h few held is =
    chosen_places (has_data n p s) n (n - p) target places (data_taken n p s places h few is) (omega (arith, data_holders n p s h few)) (ap not held)

pub data_places_have : (n p s : ℕ) (places : List ℕ) → s < n → p ≤ n → places ≡ filter (has_data n p s) (numbers_below n)
    → (j : ℕ) → j < length places → has_data n p s (slice_index places j) ≡ true
data_places_have n p s places h few is j l =
    let same = data_taken n p s places h few is in
    ap (λ xs. has_data n p s (slice_index xs j)) same
    ∙ chosen_passes (has_data n p s) n (n - p) j (omega (arith, ap (length {A = ℕ}) same))

there_count : (members : List (Option Held)) (n p : ℕ) → length members ≡ n → length (lost_places members) ≤ p → n - p ≤ length (filter (is_there members) (numbers_below n))
there_count members n p count few =
    let lost : length (lost_places members) ≡ rank (is_lost members) n = ap (rank (is_lost members)) count in
    omega (arith, rank_both (is_lost members) n)

pub held_places_are : (members : List (Option Held)) (n p target : ℕ) (places : List ℕ) → length members ≡ n → length (lost_places members) ≤ p
    → is_lost members target ≡ true → places ≡ take (n - p) (filter (is_there members) (numbers_below n)) → ArePlaces n (n - p) target places
held_places_are members n p target places count few gone is =
    chosen_places (is_there members) n (n - p) target places is (there_count members n p count few) (ap not gone)

pub held_places_have : (members : List (Option Held)) (n p : ℕ) (places : List ℕ) → places ≡ take (n - p) (filter (is_there members) (numbers_below n))
    → (j : ℕ) → j < length places → is_there members (slice_index places j) ≡ true
held_places_have members n p places is j l =
    ap (λ xs. is_there members (slice_index xs j)) is ∙ chosen_passes (is_there members) n (n - p) j (omega (arith, ap (length {A = ℕ}) is))

-- the sum of the parts is the target's segment
pub sum_completes : (scheme : Scheme) (n target c len : ℕ) (there : ℕ → Bool) (byte : ℕ → ℕ → ℕ) (places factors : List ℕ) (parts : List (List ℕ)) (old new : List ℕ)
    → AreFactors scheme n places target factors → AreParts c byte places parts → len ≤ c → ((j : ℕ) → j < length places → slice_index places j < n)
    → ((j : ℕ) → j < length places → there (slice_index places j) ≡ true) → AppendsSum len factors parts old new → AppendsCode scheme n target len there byte old new
sum_completes scheme n target c len there byte places factors parts old new f p short below here a = record {
  size = a.size;
  front = a.front;
  value = λ b h bytes count right agree.
      let same : (j : ℕ) → j < length places → slice_index (slice_index_or parts j []) b ≡ slice_index bytes (slice_index places j) =
      λ j l. (p.each j l).value b (omega arith) ∙ sym (agree (slice_index places j) (below j l) (here j l)) in
      a.sum b h
      ∙ weighted_sum_same (slice_index factors) (slice_index factors) (λ j. slice_index (slice_index_or parts j []) b) (λ j. slice_index bytes (slice_index places j)) (length factors)
      (λ j l. refl) (λ j l. same j (omega (arith, f.size)))
      ∙ ap (weighted_sum (slice_index factors) (λ j. slice_index bytes (slice_index places j))) f.size
      ∙ sym (f.value bytes count right (λ j l. subst (λ t. t < 256) (same j l) ((p.each j l).small b)));
}

pub there_from_some : (o : Option Held) (b : Bool) → b ≡ is_some o → b ≡ not (is_none o)
there_from_some None b e = e
there_from_some (Some held) b e = e

-- the factors of Reed-Solomon stripes, and places of them
pub rs_factors : (n shares target : ℕ) (places factors : List ℕ) → ColumnFactors (n - shares) n places target factors → AreFactors (Rs shares) n places target factors
rs_factors n shares target places factors f = record {
  size = f.size;
  value = λ bytes count right small. f.value bytes count (subst (λ t. IsColumn (t - shares) bytes) count right);
}

pub differ : (n count target : ℕ) (places : List ℕ) → ArePlaces n count target places → AreDistinct places (length places)
differ n count target places a i j h l e = omega (arith, a.ascend i j h l)

-- zeros to which a sum is added, put behind what was there
pub put_behind : (len : ℕ) (factors : List ℕ) (parts : List (List ℕ)) (old zeros segment : List ℕ) → zeros ≡ replicate len 0 → length segment ≡ len
    → AddsWeighed factors parts zeros segment → AppendsSum len factors parts old (old ++ segment)
put_behind len factors parts old zeros segment is size added =
    let sum_at : ℕ → ℕ = λ b. weighted_sum (slice_index factors) (λ j. slice_index (slice_index_or parts j []) b) (length factors) in
    record {
      size = length-append old segment ∙ ap (λ t. length old + t) size;
      front = λ b h. get_or_append_left old segment 0 b h;
      sum = λ b h.
          get_or-append-add old segment b 0
          ∙ added b (omega (arith, ap (length {A = ℕ}) is, length-replicate {A = ℕ} len 0))
          ∙ ap (λ t. add t (sum_at b)) (ap (λ xs. slice_index xs b) is ∙ get_or-replicate len b 0 0 h)
          ∙ zero_add (sum_at b);
    }

-- a list whose end is written over
pub written_over : (n from : ℕ) (grown items old dst post : List ℕ) → take from grown ≡ old → length post ≡ 0 → length old + length dst ≡ n
    → take n (take from grown ++ (dst ++ post) ++ drop (length (take from grown ++ (dst ++ post))) items) ≡ old ++ dst
written_over n from grown items old dst post front none size = grind (arith, common_steps, front, none, size)

-- the parts at the first j places
pub record PartsSoFar (c : ℕ) (byte : ℕ → ℕ → ℕ) (places : List ℕ) (j : ℕ) (parts : List (List ℕ)) : Type 0 where
  pub size : length parts ≡ j
  pub each : (k : ℕ) → k < j → IsPart c (byte (slice_index places k)) (slice_index_or parts k [])

pub part_more : (c : ℕ) (byte : ℕ → ℕ → ℕ) (places : List ℕ) (j : ℕ) (parts new : List (List ℕ)) (part : List ℕ) → PartsSoFar c byte places j parts
    → IsPart c (byte (slice_index places j)) part → new ≡ parts ++ part ∷ [] → PartsSoFar c byte places (j + 1) new
part_more c byte places j parts new part before here is =
    subst (PartsSoFar c byte places (j + 1)) (sym is)
    (record {
      size = length-append parts (part ∷ []) ∙ ap (λ t. t + 1) before.size;
      each = λ k h.
          elim (cases_lt k j) [
            | inl low ↦
                subst (IsPart c (byte (slice_index places k))) (sym (get_or_append_left parts (part ∷ []) [] k (omega (arith, before.size)))) (before.each k low)
            | inr high ↦
                let top : k ≡ j = omega arith in
                let last : slice_index_or (parts ++ part ∷ []) k [] ≡ part =
                ap (λ t. slice_index_or (parts ++ part ∷ []) t []) (let e : k ≡ length parts + 0 = omega (arith, before.size) in e) ∙ get_or-append-add parts (part ∷ []) 0 [] in
                subst (IsPart c (byte (slice_index places k))) (sym last) (subst (λ t. IsPart c (byte (slice_index places t)) part) (sym top) here)
          ];
    })

pub parts_all : (c : ℕ) (byte : ℕ → ℕ → ℕ) (places : List ℕ) (j : ℕ) (parts : List (List ℕ)) → PartsSoFar c byte places j parts → j ≡ length places → AreParts c byte places parts
parts_all c byte places j parts so all = record { size = so.size ∙ all; each = λ k h. so.each k (omega arith) }

pub no_parts : (c : ℕ) (byte : ℕ → ℕ → ℕ) (places : List ℕ) (parts : List (List ℕ)) → parts ≡ [] → PartsSoFar c byte places 0 parts
no_parts c byte places parts is = record { size = ap (length {A = List ℕ}) is; each = λ k h. absurd (omega arith) }

-- the same of the places as a function has them
pub data_here : (n p s target : ℕ) (xs places : List ℕ) → s < n → p ≤ n → holds_parity n p s target ≡ true → xs ≡ filter (has_data n p s) (numbers_below n) → places ≡ xs
    → ArePlaces n (n - p) target places
data_here n p s target xs places h few held is same = subst (ArePlaces n (n - p) target) (sym same) (data_places_are n p s target xs h few held is)

pub held_here : (members : List (Option Held)) (n p target : ℕ) (xs places : List ℕ) → length members ≡ n → length (lost_places members) ≤ p → is_lost members target ≡ true
    → xs ≡ take (n - p) (filter (is_there members) (numbers_below n)) → places ≡ xs → ArePlaces n (n - p) target places
held_here members n p target xs places count few gone is same = subst (ArePlaces n (n - p) target) (sym same) (held_places_are members n p target xs count few gone is)

pub there_here : (members : List (Option Held)) (n p : ℕ) (xs places : List ℕ) → xs ≡ take (n - p) (filter (is_there members) (numbers_below n)) → places ≡ xs
    → (j : ℕ) → j < length places → is_there members (slice_index places j) ≡ true
there_here members n p xs places is same j h =
    ap (λ ys. is_there members (slice_index ys j)) same ∙ held_places_have members n p xs is j (omega (arith, ap (length {A = ℕ}) same))

pub same_count : (c : ℕ) (byte : ℕ → ℕ → ℕ) (scheme : Scheme) (n target : ℕ) (places factors : List ℕ) (parts : List (List ℕ)) → AreFactors scheme n places target factors
    → AreParts c byte places parts → length factors ≡ length parts
same_count c byte scheme n target places factors parts f p = f.size ∙ sym p.size

-- ---- the data segments of a stripe, by ascending member
pub ranked_here : (n p s j : ℕ) (segments : List (List ℕ)) (places : List ℕ) (b : ℕ) → places ≡ filter (has_data n p s) (numbers_below n) → j < length places
    → slice_index (slice_index_or segments j []) b ≡ data_byte n p s segments (slice_index places j) b
ranked_here n p s j segments places b is h =
    let own = has_rank (has_data n p s) n j (omega (arith, ap (length {A = ℕ}) is)) in
    ap (λ t. slice_index (slice_index_or segments t []) b) (sym own.ranked) ∙ ap (λ xs. data_byte n p s segments (slice_index xs j) b) (sym is)

pub data_count : (n p s count : ℕ) (places : List ℕ) → s < n → p ≤ n → places ≡ filter (has_data n p s) (numbers_below n) → count + p ≡ n → count ≡ length places
data_count n p s count places h few is all = omega (arith, ap (length {A = ℕ}) is, data_holders n p s h few)

pub code_segment : (scheme : Scheme) (n target c : ℕ) (there : ℕ → Bool) (byte : ℕ → ℕ → ℕ) (old new : List ℕ) → old ≡ [] → AppendsCode scheme n target c there byte old new
    → IsCodeSegment scheme n target c there byte new
code_segment scheme n target c there byte old new none a =
    let empty : length old ≡ 0 = ap (length {A = ℕ}) none in
    record {
      size = omega (arith, a.size, empty);
      value = λ b h bytes count right agree.
          let at : length old + b ≡ b = omega (arith, empty) in
          sym (ap (slice_index new) at) ∙ a.value b h bytes count right agree;
    }
