-- What is known of a stripe, a member at a time, and how many members that is.
use Rattle.std.proofs.Common.{◌≡◌, ◌≢◌, ℕ, zero, suc, ◌+◌, ◌-◌, ◌<◌, ◌≤◌, not, Bool, true, false, List, [], ◌∷◌, ◌++◌, length, map, slice_index, slice_index_or, set, Option, Some, None, refl, sym, ap, subst, ◌∙◌, arith, inl, inr}
use Rattle.std.specs.Option.{IfSome, is_some, is_none, unwrap_or}
use Rattle.std.proofs.Math.ListN.{get_or-map}
use Rattle.std.proofs.lemmas.Bool.{cases_Bool, cases_lt}
use Rattle.std.proofs.lemmas.List.{get_or_append_left, get_or-append-add, length-append, length-map, length-set, get_or-set_same, get_or-set_other}
use Rattle.std.proofs.lemmas.List.Filters.{length-filter_both}
use Rattle.std.proofs.lemmas.List.FromFn.{length-range_with_len}
use Rattle.scr_base.specs.declared.shape.Scheme.TheVariants.{Xor, Rs}
use Rattle.scr_base.specs.Sets.{numbers_below}
use Rattle.partner_copy.specs.declared.Held.{Held}
use Rattle.lane_kernels.specs.Columns.{column_at}
use Rattle.xor_segments.specs.Column.{IsXorColumn}
use Rattle.reed_solomon.specs.Stripe.{is_known, known_places, IsRebuilt}
use Rattle.member_shares.proofs.Ranks.{rank, rank_in, rank_out, HasRank, has_rank, stands_at, only_one}
use Rattle.member_shares.proofs.Columns.{xor_fixed}
use Rattle.redundancy_set.specs.Known.{IsKnownAt, IsKnown, IsCompleted}

pub known_none : (c : ℕ) (lost : ℕ → Bool) (byte : ℕ → ℕ → ℕ) (known : List (Option (List ℕ))) → known ≡ [] → IsKnown 0 c lost byte known
known_none c lost byte known is = record { count = ap (length {A = Option (List ℕ)}) is; each = λ m h. absurd (omega arith) }

pub known_more : (n c : ℕ) (lost : ℕ → Bool) (byte : ℕ → ℕ → ℕ) (known new : List (Option (List ℕ))) (segment : Option (List ℕ)) → IsKnown n c lost byte known
    → IsKnownAt (lost n) c (byte n) segment → new ≡ known ++ segment ∷ [] → IsKnown (n + 1) c lost byte new
known_more n c lost byte known new segment before here is = record {
  count = ap (length {A = Option (List ℕ)}) is ∙ length-append known (segment ∷ []) ∙ ap (λ t. t + 1) before.count;
  each = λ m h.
      elim (cases_lt m n) [
        | inl low ↦
            let same : slice_index_or new m None ≡ slice_index_or known m None =
            ap (λ xs. slice_index_or xs m None) is ∙ get_or_append_left known (segment ∷ []) None m (omega (arith, before.count)) in
            subst (IsKnownAt (lost m) c (byte m)) (sym same) (before.each m low)
        | inr high ↦
            let top : m ≡ n = omega arith in
            let last : m ≡ length known + 0 = omega (arith, before.count) in
            let same : slice_index_or new m None ≡ segment =
            ap (λ xs. slice_index_or xs m None) is ∙ ap (λ t. slice_index_or (known ++ segment ∷ []) t None) last ∙ get_or-append-add known (segment ∷ []) 0 None in
            subst (IsKnownAt (lost m) c (byte m)) (sym same) (subst (λ t. IsKnownAt (lost t) c (byte t) segment) (sym top) here)
      ];
}

-- ---- how many are known
pub rank_same : (p q : ℕ → Bool) (n : ℕ) → ((i : ℕ) → i < n → p i ≡ q i) → rank p n ≡ rank q n
rank_same p q zero same = refl
rank_same p q (suc n) same =
    let before = rank_same p q n (λ i h. same i (omega arith)) in
    elim (cases_Bool (q n)) [
      | inl more ↦ rank_in p n (same n (omega arith) ∙ more) ∙ ap (λ t. t + 1) before ∙ sym (rank_in q n more)
      | inr less ↦ rank_out p n (same n (omega arith) ∙ less) ∙ before ∙ sym (rank_out q n less)
    ]

pub rank_both : (p : ℕ → Bool) (n : ℕ) → rank p n + rank (λ i. not (p i)) n ≡ n
rank_both p n = length-filter_both p (λ i. not (p i)) (λ i. refl) (numbers_below n) ∙ length-range_with_len 0 n

some_when : (gap : Bool) (c : ℕ) (byte : ℕ → ℕ) (segment : Option (List ℕ)) → IsKnownAt gap c byte segment → is_some segment ≡ not gap
some_when true c byte segment is = ap is_some is
some_when false c byte None is = absurd is
some_when false c byte (Some segment) is = refl

pub count_known : (n c : ℕ) (lost : ℕ → Bool) (byte : ℕ → ℕ → ℕ) (known : List (Option (List ℕ))) → IsKnown n c lost byte known
    → length (known_places known) + rank lost n ≡ n
count_known n c lost byte known k =
    let whole : length (known_places known) ≡ rank (is_known known) n = ap (rank (is_known known)) k.count in
    let same : rank (is_known known) n ≡ rank (λ i. not (lost i)) n =
    rank_same (is_known known) (λ i. not (lost i)) n (λ i h. some_when (lost i) c (byte i) (slice_index_or known i None) (k.each i h)) in
    omega (arith, rank_both lost n)

long_when : (gap : Bool) (c : ℕ) (byte : ℕ → ℕ) (segment : Option (List ℕ)) → IsKnownAt gap c byte segment → IfSome segment (λ s. length s ≡ c)
long_when true c byte segment is = subst (λ o. IfSome o (λ s. length s ≡ c)) (sym is) tt
long_when false c byte None is = absurd is
long_when false c byte (Some segment) is = is.size

pub known_long : (n c : ℕ) (lost : ℕ → Bool) (byte : ℕ → ℕ → ℕ) (known : List (Option (List ℕ))) → IsKnown n c lost byte known
    → (m : ℕ) → m < length known → IfSome (slice_index_or known m None) (λ s. length s ≡ c)
known_long n c lost byte known k m h = long_when (lost m) c (byte m) (slice_index_or known m None) (k.each m (omega (arith, k.count)))

gone_when : (gap : Bool) (c : ℕ) (byte : ℕ → ℕ) (segment : Option (List ℕ)) → IsKnownAt gap c byte segment → gap ≡ true → segment ≡ None
gone_when true c byte segment is e = is
gone_when false c byte segment is e = cc

pub known_gone : (n c : ℕ) (lost : ℕ → Bool) (byte : ℕ → ℕ → ℕ) (known : List (Option (List ℕ))) → IsKnown n c lost byte known
    → (m : ℕ) → m < n → lost m ≡ true → slice_index_or known m None ≡ None
known_gone n c lost byte known k m h e = gone_when (lost m) c (byte m) (slice_index_or known m None) (k.each m h) e

-- the bytes of a whole column at the known places
agrees_when : (gap : Bool) (c b v : ℕ) (byte : ℕ → ℕ) (segment : Option (List ℕ)) → IsKnownAt gap c byte segment → b < c → (gap ≡ false → v ≡ byte b)
    → IfSome segment (λ s. v ≡ slice_index s b)
agrees_when true c b v byte segment is h same = subst (λ o. IfSome o (λ s. v ≡ slice_index s b)) (sym is) tt
agrees_when false c b v byte None is h same = absurd is
agrees_when false c b v byte (Some segment) is h same = same refl ∙ sym (is.bytes b h)

pub known_agrees : (n c b : ℕ) (lost : ℕ → Bool) (byte : ℕ → ℕ → ℕ) (known : List (Option (List ℕ))) (bytes : List ℕ) → IsKnown n c lost byte known → b < c
    → ((m : ℕ) → m < n → lost m ≡ false → slice_index bytes m ≡ byte m b)
    → (m : ℕ) → m < length known → IfSome (slice_index_or known m None) (λ s. slice_index bytes m ≡ slice_index s b)
known_agrees n c b lost byte known bytes k h same m l =
    let low : m < n = omega (arith, k.count) in
    agrees_when (lost m) c b (slice_index bytes m) (byte m) (slice_index_or known m None) (k.each m low) h (same m low)

-- ---- fewer are known than there are
pub known_short : (known : List (Option (List ℕ))) (target : ℕ) → target < length known → slice_index_or known target None ≡ None
    → length (known_places known) < length known
known_short known target h gone =
    let own = stands_at (λ i. not (is_known known i)) (length known) target h (ap (λ o. not (is_some o)) gone) in
    omega (arith, own.within, rank_both (is_known known) (length known))

not_known : (b : Bool) → b ≡ false → not b ≡ true
not_known b e = ap not e

-- with one segment missing all others are known
pub others_known : (known : List (Option (List ℕ))) (target i : ℕ) → target < length known → slice_index_or known target None ≡ None
    → length known - 1 ≤ length (known_places known) → i < length known → i ≢ target → is_known known i ≡ true
others_known known target i h gone enough l other =
    elim (cases_Bool (is_known known i)) [
      | inl there ↦ there
      | inr missing ↦
          absurd (other
          (only_one (λ j. not (is_known known j)) (length known) i target (omega (arith, rank_both (is_known known) (length known))) l h
          (not_known (is_known known i) missing) (ap (λ o. not (is_some o)) gone)))
    ]

pub at_known : (o : Option (List ℕ)) (P : List ℕ → Type 0) → is_some o ≡ true → IfSome o P → P (unwrap_or o [])
at_known None P e h = cc
at_known (Some s) P e h = h

-- ---- a segment completes a stripe
pub xor_completed : (known : List (Option (List ℕ))) (stripe : List (List ℕ)) (target c : ℕ) (segment : List ℕ) → target < length known
    → slice_index_or known target None ≡ None → length known - 1 ≤ length (known_places known) → stripe ≡ map (λ s. unwrap_or s []) known
    → length segment ≡ c → ((b : ℕ) → b < c → IsXorColumn (set (column_at stripe b) target (slice_index segment b))) → IsCompleted Xor known target c segment
xor_completed known stripe target c segment h gone enough is size columns = record {
  size = size;
  value = λ b low bytes count right agree.
      let col : List ℕ = column_at stripe b in
      let long : length col ≡ length known =
      length-map stripe (λ s. slice_index s b) ∙ ap (length {A = List ℕ}) is ∙ length-map known (λ s. unwrap_or s []) in
      let v : ℕ = slice_index segment b in
      let whole : length (set col target v) ≡ length known = length-set col target v ∙ long in
      sym (get_or-set_same col target v 0 (omega (arith, long)))
      ∙ xor_fixed (set col target v) bytes target (whole ∙ sym count) (omega (arith, whole)) (columns b low ∙ sym right)
      (λ i l ne.
      let small : i < length known = omega (arith, whole) in
      get_or-set_other col target i v 0 ne
      ∙ get_or-map (λ s. slice_index s b) stripe i []
      ∙ ap (λ xs. slice_index (slice_index_or xs i []) b) is
      ∙ ap (λ xs. slice_index xs b) (get_or-map (λ s. unwrap_or s []) known i None)
      ∙ sym (at_known (slice_index_or known i None) (λ s. slice_index bytes i ≡ slice_index s b) (others_known known target i h gone enough small ne) (agree i small)));
}

pub rs_completed : (known : List (Option (List ℕ))) (shares target c : ℕ) (segment : List ℕ) → shares < length known → target < length known
    → length known - shares ≤ length (known_places known)
    → ((m : ℕ) → m < length known → IfSome (slice_index_or known m None) (λ s. length s ≡ c))
    → IsRebuilt (length known - shares) known target segment → IsCompleted (Rs shares) known target c segment
rs_completed known shares target c segment few h enough long r =
    let n : ℕ = length known in
    let place : ℕ → ℕ = slice_index (known_places known) in
    let own : (j : ℕ) → j < n - shares → HasRank (is_known known) n j (place j) = λ j l. has_rank (is_known known) n j (omega arith) in
    let size : length segment ≡ c =
    r.count 0 (omega arith) ∙ at_known (slice_index_or known (place 0) None) (λ s. length s ≡ c) (own 0 (omega arith)).passes (long (place 0) (own 0 (omega arith)).below) in
    record {
      size = size;
      value = λ b low bytes count right agree.
          let same : length bytes - shares ≡ n - shares = ap (λ t. t - shares) count in
          r.value b (omega arith) right.coefs right.small (right.count ∙ same)
          (λ j l.
          let there = own j l in
          sym (right.value (place j) (omega (arith, there.below)))
          ∙ at_known (slice_index_or known (place j) None) (λ s. slice_index bytes (place j) ≡ slice_index s b) there.passes (agree (place j) there.below))
          ∙ sym (right.value target (omega arith));
    }

pub none_from_some : (o : Option Held) (b : Bool) → is_some o ≡ not b → b ≡ is_none o
none_from_some None true e = refl
none_from_some None false e = cc
none_from_some (Some held) true e = cc
none_from_some (Some held) false e = refl
