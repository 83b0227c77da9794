-- The shares that the data of each stripe give.
use Rattle.std.proofs.Common.{◌≡◌, ℕ, ◌+◌, ◌-◌, ◌*◌, ◌/◌, ◌%◌, ◌<◌, ◌≤◌, not, Bool, true, false, if◌then◌else◌, List, [], length, set, slice_index, slice_index_or, map, sym, ap, subst, ◌∙◌, arith, inl, inr}
use Rattle.std.proofs.Math.Nat.{mul_comm}
use Rattle.std.proofs.lemmas.Bool.{cases_Bool, cases_eq}
use Rattle.std.proofs.lemmas.List.{ext_get_or, length-map, length-set, get_or-set_same, get_or-set_other, set-get_or}
use Rattle.std.proofs.lemmas.List.FromFn.{length-range_with_len, get_or-map-range_with_len}
use Rattle.std.proofs.lemmas.Nat.{div-mul-add, mod-mul-add, mul-add-lt}
use Rattle.scr_base.specs.declared.shape.Scheme.{Scheme}
use Rattle.scr_base.specs.declared.shape.Scheme.TheVariants.{Single, Partner, Xor, Rs}
use Rattle.scr_base.specs.Sets.{numbers_below}
use Rattle.gf256.specs.Field.{add}
use Rattle.gf256.proofs.Linear.{add_self}
use Rattle.poly_code.specs.Polynomial.{value_at}
use Rattle.poly_code.proofs.Lagrange.{AreApart, interpolated, IsBytes-interpolated, length-interpolated_all, value_at-interpolated_point}
use Rattle.xor_segments.specs.Column.{xor_of}
use Rattle.xor_segments.proofs.Sums.{xor_of-set}
use Rattle.member_shares.specs.Layout.{holds_parity, parity_place, data_place, column}
use Rattle.member_shares.specs.Shares.{parity_count, IsCodeColumn, AreParityShares, AreBytes, IsSet}
use Rattle.member_shares.proofs.Ranks.{rank, stands_at}
use Rattle.member_shares.proofs.Places.{held_near, holds_one, parity_all, data_holders}
use Rattle.member_shares.proofs.Columns.{length-column, index-column, cell_parity, cell_data, parity_fits, parity_stripe, has_data, data_members, data_member, data_members_differ}

-- the byte that member m's data has in a stripe
unfoldable pub data_byte : (n p c s b : ℕ) → List (List ℕ) → ℕ → ℕ
data_byte n p c s b streams m = slice_index (slice_index_or streams m []) (data_place n p m s * c + b)

-- the bytes of a stripe with 0 for parity
unfoldable pub blank : (n p c s b : ℕ) → List (List ℕ) → List ℕ
blank n p c s b streams = map (λ m. if holds_parity n p s m then 0 else data_byte n p c s b streams m) (numbers_below n)

-- the polynomial through a stripe's data
unfoldable pub data_poly : (n p c s b : ℕ) → List (List ℕ) → List ℕ
data_poly n p c s b streams =
    interpolated (slice_index (data_members n p s)) (λ j. data_byte n p c s b streams (slice_index (data_members n p s) j)) (n - p) (n - p)

-- the byte that the data ask of member m
abbrev pub asked : Scheme → (n c s b : ℕ) → List (List ℕ) → ℕ → ℕ
asked Single n c s b streams m = 0
asked Partner n c s b streams m = 0
asked Xor n c s b streams m = xor_of (blank n 1 c s b streams)
asked (Rs shares) n c s b streams m = value_at (data_poly n shares c s b streams) m

unfoldable pub share_for : Scheme → (c : ℕ) → List (List ℕ) → ℕ → List ℕ
share_for scheme c streams m =
    map (λ d. asked scheme (length streams) c (parity_stripe (length streams) (parity_count scheme) m (d / c)) (d % c) streams m) (numbers_below (parity_count scheme * c))

unfoldable pub shares_for : Scheme → (c : ℕ) → List (List ℕ) → List (List ℕ)
shares_for scheme c streams = map (share_for scheme c streams) (numbers_below (length streams))

index-shares_for : (scheme : Scheme) (c : ℕ) (streams : List (List ℕ)) (m : ℕ) → m < length streams → slice_index_or (shares_for scheme c streams) m [] ≡ share_for scheme c streams m
unfolding shares_for
index-shares_for scheme c streams m h = get_or-map-range_with_len (share_for scheme c streams) 0 (length streams) m m [] h (omega arith)

length-share_for : (scheme : Scheme) (c : ℕ) (streams : List (List ℕ)) (m : ℕ) → length (share_for scheme c streams m) ≡ parity_count scheme * c
unfolding share_for
length-share_for scheme c streams m =
    length-map (numbers_below (parity_count scheme * c)) (λ d. asked scheme (length streams) c (parity_stripe (length streams) (parity_count scheme) m (d / c)) (d % c) streams m)
    ∙ length-range_with_len 0 (parity_count scheme * c)

held_place : (n p m s : ℕ) → s < n → m < n → p ≤ n → holds_parity n p s m ≡ true → (parity_place n p m s < p) × (parity_stripe n p m (parity_place n p m s) ≡ s)
unfolding parity_place
held_place n p m s h l few e =
    let own = stands_at (λ t. holds_parity n p t m) n s h e in
    let all : rank (λ t. holds_parity n p t m) n ≡ p = parity_all n p m l few in
    (omega (arith, own.within), own.there)

-- the byte asked stands in the share
share_byte : (scheme : Scheme) (c : ℕ) (streams : List (List ℕ)) (m s b : ℕ) → m < length streams → s < length streams → parity_count scheme ≤ length streams → b < c
    → holds_parity (length streams) (parity_count scheme) s m ≡ true
    → slice_index (share_for scheme c streams m) (parity_place (length streams) (parity_count scheme) m s * c + b) ≡ asked scheme (length streams) c s b streams m
unfolding share_for
share_byte scheme c streams m s b l h few low e =
    let n : ℕ = length streams in
    let p : ℕ = parity_count scheme in
    let q : ℕ = parity_place n p m s in
    let d : ℕ = q * c + b in
    let own = held_place n p m s h l few e in
    let within : d < p * c = subst (λ t. d < t) (mul_comm c p) (mul-add-lt q c b p own.0 low) in
    get_or-map-range_with_len (λ t. asked scheme n c (parity_stripe n p m (t / c)) (t % c) streams m) 0 (p * c) d d 0 within (omega arith)
    ∙ ap (λ t. asked scheme n c (parity_stripe n p m t) (d % c) streams m) (div-mul-add q c b low)
    ∙ ap (λ t. asked scheme n c t (d % c) streams m) own.1
    ∙ ap (λ t. asked scheme n c s t streams m) (mod-mul-add q c b low)

-- the column has the data's bytes and those that they ask for
record IsFilledColumn (scheme : Scheme) (n c s b : ℕ) (streams : List (List ℕ)) (bytes : List ℕ) : Type 0 where
  pub count : length bytes ≡ n
  pub data_there : (m : ℕ) → m < n → holds_parity n (parity_count scheme) s m ≡ false → slice_index bytes m ≡ data_byte n (parity_count scheme) c s b streams m
  pub parity_there : (m : ℕ) → m < n → holds_parity n (parity_count scheme) s m ≡ true → slice_index bytes m ≡ asked scheme n c s b streams m

filled_column : (scheme : Scheme) (c : ℕ) (streams : List (List ℕ)) (s b : ℕ) → s < length streams → parity_count scheme ≤ length streams → b < c
    → IsFilledColumn scheme (length streams) c s b streams (column (length streams) (parity_count scheme) c s b streams (shares_for scheme c streams))
unfolding data_byte
filled_column scheme c streams s b h few low =
    let n : ℕ = length streams in
    let p : ℕ = parity_count scheme in
    let shares : List (List ℕ) = shares_for scheme c streams in
    record {
      count = length-column n p c s b streams shares;
      data_there = λ m l e. index-column n p c s b m streams shares l ∙ cell_data n p c m s b (slice_index_or streams m []) (slice_index_or shares m []) e;
      parity_there = λ m l e.
          index-column n p c s b m streams shares l
          ∙ cell_parity n p c m s b (slice_index_or streams m []) (slice_index_or shares m []) e
          ∙ ap (λ xs. slice_index xs (parity_place n p m s * c + b)) (index-shares_for scheme c streams m l)
          ∙ share_byte scheme c streams m s b l h few low e;
    }

-- with the sum of the others as parity the sum is 0
blank_index : (n p c s b : ℕ) (streams : List (List ℕ)) (m : ℕ) → m < n → slice_index (blank n p c s b streams) m ≡ (if holds_parity n p s m then 0 else data_byte n p c s b streams m)
unfolding blank
blank_index n p c s b streams m h = get_or-map-range_with_len (λ t. if holds_parity n p s t then 0 else data_byte n p c s b streams t) 0 n m m 0 h (omega arith)

length-blank : (n p c s b : ℕ) (streams : List (List ℕ)) → length (blank n p c s b streams) ≡ n
unfolding blank
length-blank n p c s b streams = length-map (numbers_below n) (λ m. if holds_parity n p s m then 0 else data_byte n p c s b streams m) ∙ length-range_with_len 0 n

xor_filled : (n c s b : ℕ) (streams : List (List ℕ)) (bytes : List ℕ) → s < n → IsFilledColumn Xor n c s b streams bytes → xor_of bytes ≡ 0
xor_filled n c s b streams bytes h f =
    let empty : List ℕ = blank n 1 c s b streams in
    let held : holds_parity n 1 s s ≡ true = held_near n 1 s s h (omega arith) (omega arith) in
    let size : length empty ≡ n = length-blank n 1 c s b streams in
    let at : slice_index empty s ≡ 0 = blank_index n 1 c s b streams s h ∙ ap (λ t. if t then 0 else data_byte n 1 c s b streams s) held in
    let v : ℕ = xor_of empty in
    let same : bytes ≡ set empty s v =
    ext_get_or 0 bytes (set empty s v) (f.count ∙ sym (length-set empty s v ∙ size))
    (λ m l.
    let low : m < n = omega (arith, f.count) in
    elim (cases_eq m s) [
      | inl e ↦
          ap (slice_index bytes) e ∙ f.parity_there s h held ∙ sym (get_or-set_same empty s v 0 (omega (arith, size)))
          ∙ ap (slice_index (set empty s v)) (sym e)
      | inr ne ↦
          elim (cases_Bool (holds_parity n 1 s m)) [
            | inl other ↦ absurd (ne (holds_one n s m h low other))
            | inr free ↦
                f.data_there m low free
                ∙ sym (get_or-set_other empty s m v 0 ne ∙ blank_index n 1 c s b streams m low ∙ ap (λ t. if t then 0 else data_byte n 1 c s b streams m) free)
          ]
    ]) in
    let unset : set empty s 0 ≡ empty = ap (set empty s) (sym at) ∙ set-get_or empty s 0 in
    ap xor_of same ∙ xor_of-set empty s v (omega (arith, size)) ∙ ap (λ t. add v (xor_of t)) unset ∙ add_self v

not_held : (b : Bool) → b ≡ false → not b ≡ true
not_held b e = ap not e

data_byte-lt : (n p c s b : ℕ) (streams : List (List ℕ)) (m : ℕ) → AreBytes streams → data_byte n p c s b streams m < 256
unfolding data_byte
data_byte-lt n p c s b streams m bytes = bytes m (data_place n p m s * c + b)

code_filled : (scheme : Scheme) (n c s b : ℕ) (streams : List (List ℕ)) (bytes : List ℕ) → IsSet scheme n → AreBytes streams → s < n
    → IsFilledColumn scheme n c s b streams bytes → IsCodeColumn scheme bytes
unfolding data_poly
code_filled Single n c s b streams bytes is small h f = tt
code_filled Partner n c s b streams bytes is small h f = tt
code_filled Xor n c s b streams bytes is small h f = xor_filled n c s b streams bytes h f
code_filled (Rs shares) n c s b streams bytes is small h f =
    let few : shares < n = parity_fits (Rs shares) n is in
    let points : ℕ → ℕ = slice_index (data_members n shares s) in
    let values : ℕ → ℕ = λ j. data_byte n shares c s b streams (points j) in
    let apart : AreApart points (n - shares) =
    record {
      small = λ i l. omega (arith, (data_member n shares s i h (omega arith) l).below, is.few);
      apart = λ i j l up. data_members_differ n shares s i j h (omega arith) l up;
    } in
    let poly : List ℕ = data_poly n shares c s b streams in
    record {
      coefs = poly;
      small = IsBytes-interpolated points values (n - shares) (n - shares);
      count = length-interpolated_all points values (n - shares) ∙ ap (λ t. t - shares) (sym f.count);
      value = λ m l.
          let low : m < n = omega (arith, f.count) in
          elim (cases_Bool (holds_parity n shares s m)) [
            | inl held ↦ f.parity_there m low held
            | inr free ↦
                let own = stands_at (has_data n shares s) n m low (not_held (holds_parity n shares s m) free) in
                let j : ℕ = rank (has_data n shares s) m in
                let within : j < n - shares = omega (arith, own.within, data_holders n shares s h (omega arith)) in
                let there : points j ≡ m = own.there in
                f.data_there m low free
                ∙ ap (data_byte n shares c s b streams) (sym there)
                ∙ sym (value_at-interpolated_point points values (n - shares) j apart within (data_byte-lt n shares c s b streams (points j) small))
                ∙ ap (value_at poly) there
          ];
    }

pub some_list : (scheme : Scheme) (c : ℕ) (streams : List (List ℕ)) → IsSet scheme (length streams) → AreBytes streams
    → (shares : List (List ℕ)) × AreParityShares scheme c streams shares
unfolding shares_for
some_list scheme c streams is bytes = (
  shares_for scheme c streams,
  record {
    count = length-map (numbers_below (length streams)) (share_for scheme c streams) ∙ length-range_with_len 0 (length streams);
    sizes = λ m h. ap (length {A = ℕ}) (index-shares_for scheme c streams m h) ∙ length-share_for scheme c streams m;
    columns = λ s b h low.
        let few : parity_count scheme < length streams = parity_fits scheme (length streams) is in
        code_filled scheme (length streams) c s b streams (column (length streams) (parity_count scheme) c s b streams (shares_for scheme c streams)) is bytes h
        (filled_column scheme c streams s b h (omega arith) low);
  },
)
