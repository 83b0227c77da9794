-- The inputs of a claim of a stripe, one member's more at a time.
use Rattle.std.proofs.Common.{◌≡◌, ℕ, ◌+◌, ◌-◌, ◌*◌, ◌<◌, ◌≤◌, ◌++◌, ◌∷◌, [], not, true, false, List, length, slice_index, slice_index_or, All, add-one, sym, ap, subst, ◌∙◌, inl, inr, arith}
use Rattle.std.proofs.lemmas.Bool.{cases_lt}
use Rattle.std.proofs.lemmas.List.{get_or_append_left, get_or-append_right}
use Rattle.std.proofs.lemmas.List.Elements.{All-nil, All-cons, All-append}
use Rattle.member_shares.specs.Layout.{holds_parity, data_place}
use Rattle.member_shares.proofs.Ranks.{rank_in, rank_out, stands_at}
use Rattle.member_shares.proofs.Places.{data_holders}
use Rattle.redundancy_set.specs.Known.{stream_byte}
use Rattle.commit_core.specs.Claims.{input_length}
use Rattle.commit_core.specs.Deposits.{input_place, AreSegmentParts}
use Rattle.commit_core.specs.Stretch.{IsStretch}

-- the first m members' inputs: so many bytes of each one's data in the stripe, from one place on
pub record HasInputs (n p c s from len m : ℕ) (streams inputs : List (List ℕ)) : Type 0 where
  pub bytes : (i b : ℕ) → i < m → holds_parity n p s i ≡ false → b < len → slice_index (slice_index_or inputs (input_place n p s i) []) b ≡ stream_byte n p c s streams i (from + b)

pub count_in : (n p s m : ℕ) → holds_parity n p s m ≡ false → input_place n p s (m + 1) ≡ input_place n p s m + 1
count_in n p s m free = rw (add-one) (rank_in (λ t. not (holds_parity n p s t)) m (ap not free))

pub count_out : (n p s m : ℕ) → holds_parity n p s m ≡ true → input_place n p s (m + 1) ≡ input_place n p s m
count_out n p s m held = rw (add-one) (rank_out (λ t. not (holds_parity n p s t)) m (ap not held))

pub all_counted : (n p s : ℕ) → s < n → p ≤ n → input_place n p s n + p ≡ n
all_counted n p s h few = let all = data_holders n p s h few in omega (arith, all, few)

-- no member yet
pub inputs_none : (n p c s from len : ℕ) (streams : List (List ℕ)) → HasInputs n p c s from len 0 streams []
inputs_none n p c s from len streams = record { bytes = λ i b low free within. absurd (omega (arith, low)) }

-- a member that has parity in the stripe
pub inputs_out : (n p c s from len m : ℕ) (streams inputs : List (List ℕ)) → holds_parity n p s m ≡ true → HasInputs n p c s from len m streams inputs → HasInputs n p c s from len (m + 1) streams inputs
inputs_out n p c s from len m streams inputs held has = record {
  bytes = λ i b low free within. elim (cases_lt i m) [
    | inl before ↦ has.bytes i b before free within
    | inr past ↦ let same : i ≡ m = omega (arith, low, past) in absurd (let e : holds_parity n p s m ≡ false = subst (λ (x : ℕ). holds_parity n p s x ≡ false) same free in cc (e, held))
  ];
}

-- a member that has data
pub inputs_in : (n p c s from len m : ℕ) (streams inputs : List (List ℕ)) (bytes : List ℕ) → holds_parity n p s m ≡ false → length inputs ≡ input_place n p s m → IsStretch (slice_index_or streams m []) (data_place n p m s * c + from) len bytes
    → HasInputs n p c s from len m streams inputs → HasInputs n p c s from len (m + 1) streams (inputs ++ bytes ∷ [])
inputs_in n p c s from len m streams inputs bytes free count stretch has = record {
  bytes = λ i b low own within. elim (cases_lt i m) [
    | inl before ↦
        let stands = stands_at (λ t. not (holds_parity n p s t)) m i before (ap not own) in
        ap (λ (xs : List ℕ). slice_index xs b) (get_or_append_left inputs (bytes ∷ []) [] (input_place n p s i) (omega (arith, stands.within, count)))
        ∙ has.bytes i b before own within
    | inr past ↦
        let same : i ≡ m = omega (arith, low, past) in
        subst (λ (x : ℕ). slice_index (slice_index_or (inputs ++ bytes ∷ []) (input_place n p s x) []) b ≡ stream_byte n p c s streams x (from + b)) (sym same)
        (ap (λ (xs : List ℕ). slice_index xs b) (here (input_place n p s m) count)
        ∙ stretch.each b within ∙ ap (slice_index (slice_index_or streams m [])) (let far : data_place n p m s * c + from + b ≡ data_place n p m s * c + (from + b) = omega arith in far))
  ];
}
  where
    here : (k : ℕ) → length inputs ≡ k → slice_index_or (inputs ++ bytes ∷ []) k [] ≡ bytes
    here k is = get_or-append_right inputs (bytes ∷ []) k k [] is (omega arith) ∙ ap (λ (j : ℕ). slice_index_or (bytes ∷ []) j []) (let none : k - k ≡ 0 = omega arith in none)

-- one more of the same length
pub sizes_in : (len : ℕ) (inputs : List (List ℕ)) (bytes : List ℕ) → All (λ input. length input ≡ len) inputs → length bytes ≡ len → All (λ input. length input ≡ len) (inputs ++ bytes ∷ [])
sizes_in len inputs bytes sizes size = All-append (λ input. length input ≡ len) inputs (bytes ∷ []) sizes (All-cons (λ input. length input ≡ len) bytes [] size (All-nil (λ input. length input ≡ len)))

-- all members' inputs are parts of the segments
pub segment_parts : (n p c s from len : ℕ) (streams inputs : List (List ℕ)) → s < n → p < n → length inputs ≡ input_place n p s n → All (λ input. length input ≡ len) inputs → from + len ≤ c → HasInputs n p c s from len n streams inputs
    → AreSegmentParts n p c s from streams inputs
segment_parts n p c s from len streams inputs h few count sizes within has =
    let all : length inputs + p ≡ n = ap (λ (k : ℕ). k + p) count ∙ all_counted n p s h (omega (arith, few)) in
    let size : input_length inputs ≡ len = sizes 0 [] (omega (arith, all, few)) in
    record {
      count = all;
      within = omega (arith, size, within);
      bytes = λ m b low free inside. has.bytes m b low free (omega (arith, inside, size));
    }
