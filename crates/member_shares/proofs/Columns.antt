-- What a column's bytes are, and that those of its data segments fix it.
use Rattle.std.proofs.Common.{◌≡◌, ◌≢◌, ℕ, zero, suc, ◌+◌, ◌-◌, ◌*◌, ◌/◌, ◌%◌, ◌<◌, ◌≤◌, not, Bool, true, false, if◌then◌else◌, List, [], ◌∷◌, length, get_or, slice_index, slice_index_or, refl, sym, ap, ◌∙◌, arith, inl, inr}
use Rattle.std.specs.List.{filter}
use Rattle.std.proofs.lemmas.Bool.{cases_Bool, leb-true}
use Rattle.std.proofs.lemmas.List.{ext_get_or, length-map}
use Rattle.std.proofs.lemmas.List.FromFn.{length-range_with_len, get_or-map-range_with_len}
use Rattle.std.proofs.lemmas.Nat.{div-add-mod', mod_below}
use Rattle.std.proofs.Math.Nat.{div-lt_iff_lt-mul}
use Rattle.scr_base.specs.declared.shape.Scheme.{Scheme}
use Rattle.scr_base.specs.declared.shape.Scheme.TheVariants.{Single, Partner, Xor, Rs}
use Rattle.scr_base.specs.Sets.{numbers_below}
use Rattle.gf256.specs.Field.{add}
use Rattle.gf256.proofs.Linear.{add_assoc, add_comm, add_self, zero_add}
use Rattle.poly_code.proofs.Same.{same_value_from_points}
use Rattle.xor_segments.specs.Column.{xor_of}
use Rattle.member_shares.specs.Layout.{holds_parity, parity_place, data_place, cell, column}
use Rattle.member_shares.specs.Shares.{parity_count, IsCodeColumn, AreParityShares, IsSet}
use Rattle.member_shares.proofs.Ranks.{rank, has_rank}
use Rattle.member_shares.proofs.Places.{holds_some, holds_one, parity_all, data_holders}

pub length-column : (n p c s b : ℕ) (streams shares : List (List ℕ)) → length (column n p c s b streams shares) ≡ n
unfolding column
length-column n p c s b streams shares =
    length-map (numbers_below n) (λ m. cell n p c m s b (slice_index_or streams m []) (slice_index_or shares m [])) ∙ length-range_with_len 0 n

pub index-column : (n p c s b m : ℕ) (streams shares : List (List ℕ)) → m < n
    → slice_index (column n p c s b streams shares) m ≡ cell n p c m s b (slice_index_or streams m []) (slice_index_or shares m [])
unfolding column
index-column n p c s b m streams shares h =
    get_or-map-range_with_len (λ t. cell n p c t s b (slice_index_or streams t []) (slice_index_or shares t [])) 0 n m m 0 h (omega arith)

pub cell_parity : (n p c m s b : ℕ) (stream share : List ℕ) → holds_parity n p s m ≡ true
    → cell n p c m s b stream share ≡ slice_index share (parity_place n p m s * c + b)
unfolding cell
cell_parity n p c m s b stream share e =
    ap (λ t. if t then slice_index share (parity_place n p m s * c + b) else slice_index stream (data_place n p m s * c + b)) e

pub cell_data : (n p c m s b : ℕ) (stream share : List ℕ) → holds_parity n p s m ≡ false
    → cell n p c m s b stream share ≡ slice_index stream (data_place n p m s * c + b)
unfolding cell
cell_data n p c m s b stream share e =
    ap (λ t. if t then slice_index share (parity_place n p m s * c + b) else slice_index stream (data_place n p m s * c + b)) e

-- ---- columns of the sum 0
cancel : (a u v : ℕ) → add a u ≡ add a v → u ≡ v
cancel a u v e =
    sym (zero_add u) ∙ ap (λ t. add t u) (sym (add_self a)) ∙ add_assoc a a u ∙ ap (add a) e
    ∙ sym (add_assoc a a v) ∙ ap (λ t. add t v) (add_self a) ∙ zero_add v

-- all bytes but one fix that one
pub xor_fixed : (xs ys : List ℕ) (m : ℕ) → length xs ≡ length ys → m < length xs → xor_of xs ≡ xor_of ys
    → ((i : ℕ) → i < length xs → i ≢ m → get_or xs i 0 ≡ get_or ys i 0) → get_or xs m 0 ≡ get_or ys m 0
unfolding xor_of
xor_fixed [] ys m len h e agree = absurd (omega arith)
xor_fixed (x ∷ xs) [] m len h e agree = absurd (omega arith)
xor_fixed (x ∷ xs) (y ∷ ys) zero len h e agree =
    let tails : xs ≡ ys = ext_get_or 0 xs ys (omega arith) (λ i l. agree (suc i) (omega arith) (λ f. omega arith)) in
    cancel (xor_of xs) x y (add_comm (xor_of xs) x ∙ e ∙ ap (add y) (ap xor_of (sym tails)) ∙ add_comm y (xor_of xs))
xor_fixed (x ∷ xs) (y ∷ ys) (suc m) len h e agree =
    let heads : x ≡ y = agree 0 (omega arith) (λ f. omega arith) in
    xor_fixed xs ys m (omega arith) (omega arith) (cancel x (xor_of xs) (xor_of ys) (e ∙ ap (λ t. add t (xor_of ys)) (sym heads)))
    (λ i l ne. agree (suc i) (omega arith) (λ f. ne (omega arith)))

-- ---- a set
pub parity_fits : (scheme : Scheme) (n : ℕ) → IsSet scheme n → parity_count scheme < n
parity_fits Single n set = omega (arith, set.some)
parity_fits Partner n set = omega (arith, set.some)
parity_fits Xor n set = let two : 2 ≤ n = leb-true 2 n set.fits in omega arith
parity_fits (Rs shares) n set = let more : shares + 1 ≤ n = leb-true (shares + 1) n set.fits in omega arith

pub no_parity : (n s m : ℕ) → s < n → m < n → holds_parity n 0 s m ≡ false
no_parity n s m h l =
    elim (cases_Bool (holds_parity n 0 s m)) [ inl e ↦ absurd (omega (arith, holds_some n 0 s m h l (omega arith) e)) | inr e ↦ e ]

not_true : (b : Bool) → not b ≡ true → b ≡ false
not_true true e = cc
not_true false e = refl

clash : (b : Bool) → b ≡ true → b ≡ false → ⊥
clash b e f = cc

-- the members with data in a stripe
abbrev pub has_data : ℕ → ℕ → ℕ → ℕ → Bool
has_data n p s m = not (holds_parity n p s m)

abbrev pub data_members : ℕ → ℕ → ℕ → List ℕ
data_members n p s = filter (has_data n p s) (numbers_below n)

-- the data member at each place
pub record IsDataMember (n p s j x : ℕ) : Type 0 where
  pub below : x < n
  pub free : holds_parity n p s x ≡ false
  pub ranked : rank (has_data n p s) x ≡ j

pub data_member : (n p s j : ℕ) → s < n → p ≤ n → j < n - p → IsDataMember n p s j (slice_index (data_members n p s) j)
data_member n p s j h few l =
    let own = has_rank (has_data n p s) n j (omega (arith, data_holders n p s h few)) in
    record { below = own.below; free = not_true (holds_parity n p s (slice_index (data_members n p s) j)) own.passes; ranked = own.ranked }

pub data_members_differ : (n p s i j : ℕ) → s < n → p ≤ n → i < j → j < n - p → slice_index (data_members n p s) i ≢ slice_index (data_members n p s) j
data_members_differ n p s i j h few l up e =
    let a = data_member n p s i h few (omega arith) in
    let b = data_member n p s j h few up in
    let same : i ≡ j = sym a.ranked ∙ ap (rank (has_data n p s)) e ∙ b.ranked in
    omega arith

-- two columns with the same data are the same
pub same_in_column : (scheme : Scheme) (n s m : ℕ) (xs ys : List ℕ) → IsSet scheme n → s < n → m < n → length xs ≡ n → length ys ≡ n
    → IsCodeColumn scheme xs → IsCodeColumn scheme ys
    → ((i : ℕ) → i < n → holds_parity n (parity_count scheme) s i ≡ false → slice_index xs i ≡ slice_index ys i) → slice_index xs m ≡ slice_index ys m
same_in_column Single n s m xs ys set h l u v p q agree = agree m l (no_parity n s m h l)
same_in_column Partner n s m xs ys set h l u v p q agree = agree m l (no_parity n s m h l)
same_in_column Xor n s m xs ys set h l u v p q agree =
    elim (cases_Bool (holds_parity n 1 s m)) [
      | inr free ↦ agree m l free
      | inl held ↦
          let at : m ≡ s = holds_one n s m h l held in
          xor_fixed xs ys m (u ∙ sym v) (omega arith) (p ∙ sym q)
          (λ i low ne.
          let small : i < n = omega arith in
          elim (cases_Bool (holds_parity n 1 s i)) [
            | inr free ↦ agree i small free
            | inl other ↦ absurd (ne (holds_one n s i h small other ∙ sym at))
          ])
    ]
same_in_column (Rs shares) n s m xs ys set h l u v p q agree =
    let few : shares < n = parity_fits (Rs shares) n set in
    let points : ℕ → ℕ = slice_index (data_members n shares s) in
    let member : (i : ℕ) → i < n - shares → IsDataMember n shares s i (points i) = λ i low. data_member n shares s i h (omega arith) low in
    p.value m (omega arith)
    ∙ same_value_from_points (n - shares) p.coefs q.coefs points (omega (arith, p.count)) (omega (arith, q.count)) p.small q.small
    (λ i low. omega (arith, (member i low).below, set.few))
    (λ i j low up. data_members_differ n shares s i j h (omega arith) low up)
    (λ i low.
    let x = member i low in
    let below : points i < n = x.below in
    sym (p.value (points i) (omega arith)) ∙ agree (points i) below x.free ∙ q.value (points i) (omega arith)) m
    ∙ sym (q.value m (omega arith))

-- ---- two lists of shares are the same
abbrev pub parity_stripe : ℕ → ℕ → ℕ → ℕ → ℕ
parity_stripe n p m q = slice_index (filter (λ t. holds_parity n p t m) (numbers_below n)) q

pub record IsParityStripe (n p m q s : ℕ) : Type 0 where
  pub below : s < n
  pub held : holds_parity n p s m ≡ true
  pub place : parity_place n p m s ≡ q

pub is_parity_stripe : (n p m q : ℕ) → m < n → p ≤ n → q < p → IsParityStripe n p m q (parity_stripe n p m q)
unfolding parity_place
is_parity_stripe n p m q l few h =
    let all : rank (λ t. holds_parity n p t m) n ≡ p = parity_all n p m l few in
    let own = has_rank (λ t. holds_parity n p t m) n q (omega arith) in
    record { below = own.below; held = own.passes; place = own.ranked }

byte_same : (scheme : Scheme) (c : ℕ) (streams xs ys : List (List ℕ)) (m d : ℕ) → IsSet scheme (length streams) → m < length streams → d < parity_count scheme * c
    → AreParityShares scheme c streams xs → AreParityShares scheme c streams ys → slice_index (slice_index_or xs m []) d ≡ slice_index (slice_index_or ys m []) d
byte_same scheme zero streams xs ys m d set l h p q = absurd (omega arith)
byte_same scheme (suc k) streams xs ys m d set l h p q =
    let c : ℕ = suc k in
    let n : ℕ = length streams in
    let count : ℕ = parity_count scheme in
    let few : count < n = parity_fits scheme n set in
    let row : d / c < count = (div-lt_iff_lt-mul {k = c} {x = d} {y = count} (omega arith)).1 h in
    let b : ℕ = d % c in
    let low : b < c = mod_below d c (omega arith) in
    let own = is_parity_stripe n count m (d / c) l (omega arith) row in
    let s : ℕ = parity_stripe n count m (d / c) in
    let at : parity_place n count m s * c + b ≡ d = ap (λ t. t * c + b) own.place ∙ div-add-mod' d c in
    let byte : (zs : List (List ℕ)) → slice_index (slice_index_or zs m []) d ≡ slice_index (column n count c s b streams zs) m = λ zs.
    ap (slice_index (slice_index_or zs m [])) (sym at)
    ∙ sym (cell_parity n count c m s b (slice_index_or streams m []) (slice_index_or zs m []) own.held)
    ∙ sym (index-column n count c s b m streams zs l) in
    byte xs
    ∙ same_in_column scheme n s m (column n count c s b streams xs) (column n count c s b streams ys) set own.below l
    (length-column n count c s b streams xs) (length-column n count c s b streams ys) (p.columns s b own.below low) (q.columns s b own.below low)
    (λ i small free.
    index-column n count c s b i streams xs small
    ∙ cell_data n count c i s b (slice_index_or streams i []) (slice_index_or xs i []) free
    ∙ sym (cell_data n count c i s b (slice_index_or streams i []) (slice_index_or ys i []) free)
    ∙ sym (index-column n count c s b i streams ys small))
    ∙ sym (byte ys)

pub one_list : (scheme : Scheme) (c : ℕ) (streams xs ys : List (List ℕ)) → IsSet scheme (length streams)
    → AreParityShares scheme c streams xs → AreParityShares scheme c streams ys → xs ≡ ys
one_list scheme c streams xs ys set p q =
    ext_get_or [] xs ys (p.count ∙ sym q.count)
    (λ m h.
    let l : m < length streams = omega (arith, p.count) in
    ext_get_or 0 (slice_index_or xs m []) (slice_index_or ys m []) (p.sizes m l ∙ sym (q.sizes m l))
    (λ d low. byte_same scheme c streams xs ys m d set l (omega (arith, p.sizes m l)) p q))
