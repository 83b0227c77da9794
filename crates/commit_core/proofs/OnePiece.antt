-- Some column has the bytes of the inputs, so that no two pieces answer a claim.
use Rattle.std.proofs.Common.{◌≡◌, ◌≢◌, ℕ, ◌+◌, ◌*◌, ◌<◌, false, IsTrue, List, [], length, map, replicate, slice_index, slice_index_or, refl, sym, ap, subst, ◌∙◌, arith, inl, inr}
use Rattle.std.proofs.lemmas.Bool.{cases_lt}
use Rattle.std.proofs.lemmas.List.{ext_get_or, get_or-replicate, get_or_past, length-replicate}
use Rattle.std.proofs.lemmas.List.FromFn.{length-map-range_with_len, get_or-map-range_with_len}
use Rattle.scr_base.specs.declared.shape.Scheme.{Scheme}
use Rattle.scr_base.specs.declared.shape.Scheme.TheVariants.{Single, Partner, Xor, Rs}
use Rattle.scr_base.specs.Sets.{numbers_below}
use Rattle.member_shares.specs.Layout.{holds_parity, data_place, column}
use Rattle.member_shares.specs.Shares.{parity_count, IsSet, IsCodeColumn, AreBytes}
use Rattle.member_shares.proofs.Columns.{length-column, index-column, cell_data}
use Rattle.member_shares.proofs.Filled.{some_list}
use Rattle.redundancy_set.specs.Known.{IsKnown, IsCompleted}
use Rattle.redundancy_set.proofs.KnownLemmas.{known_agrees}
use Rattle.redundancy_set.proofs.Segments.{shares_of}
use Rattle.commit_core.specs.Claims.{input_length, is_claim}
use Rattle.commit_core.specs.Deposits.{input_place, known_of, IsParityPiece}
use Rattle.commit_core.proofs.ClaimFacts.{IsCoded, coded, some_shares}
use Rattle.commit_core.proofs.Known.{known_is, input_byte}

-- streams with segments of one byte, which is that of the input
abbrev pub stream_at : (n p s : ℕ) → List (List ℕ) → (b m : ℕ) → List ℕ
stream_at n p s inputs b m = replicate (data_place n p m s + 1) (input_byte n p s inputs m b)

abbrev pub streams_at : (n p s : ℕ) → List (List ℕ) → ℕ → List (List ℕ)
streams_at n p s inputs b = map (stream_at n p s inputs b) (numbers_below n)

same_byte : (k v d : ℕ) → v < 256 → slice_index (replicate k v) d < 256
same_byte k v d h =
    elim (cases_lt d k) [
      | inl low ↦ omega (arith, get_or-replicate k d v 0 low)
      | inr high ↦ omega (arith, get_or_past (replicate k v) d 0 (omega (arith, length-replicate k v)))
    ]

are_bytes : (n p s : ℕ) (inputs : List (List ℕ)) (b : ℕ) → AreBytes inputs → AreBytes (streams_at n p s inputs b)
are_bytes n p s inputs b small = λ m d.
    elim (cases_lt m n) [
      | inl low ↦
          let own : slice_index_or (streams_at n p s inputs b) m [] ≡ stream_at n p s inputs b m =
          get_or-map-range_with_len (stream_at n p s inputs b) 0 n m m [] low (omega arith) in
          subst (λ xs. slice_index xs d < 256) (sym own) (same_byte (data_place n p m s + 1) (input_byte n p s inputs m b) d (small (input_place n p s m) b))
      | inr high ↦
          let none : slice_index_or (streams_at n p s inputs b) m [] ≡ [] =
          get_or_past (streams_at n p s inputs b) m [] (omega (arith, length-map-range_with_len (stream_at n p s inputs b) 0 n)) in
          subst (λ xs. slice_index xs d < 256) (sym none) (omega arith)
    ]

-- a column with the bytes at b of the inputs
pub record IsColumnOf (scheme : Scheme) (n p s : ℕ) (inputs : List (List ℕ)) (b : ℕ) : Type 0 where
  pub bytes : List ℕ
  pub count : length bytes ≡ n
  pub right : IsCodeColumn scheme bytes
  pub agrees : (m : ℕ) → m < n → holds_parity n p s m ≡ false → slice_index bytes m ≡ input_byte n p s inputs m b

some_column : (scheme : Scheme) (n p s : ℕ) (inputs : List (List ℕ)) (b : ℕ) → p ≡ parity_count scheme → IsSet scheme n → s < n → AreBytes inputs
    → IsColumnOf scheme n p s inputs b
some_column scheme n p s inputs b ep set h small =
    let streams : List (List ℕ) = streams_at n p s inputs b in
    let count : length streams ≡ n = length-map-range_with_len (stream_at n p s inputs b) 0 n in
    let some = some_list scheme 1 streams (subst (IsSet scheme) (sym count) set) (are_bytes n p s inputs b small) in
    let of = shares_of scheme n p 1 streams some.0 (sym count) ep some.1 in
    record {
      bytes = column n p 1 s 0 streams some.0;
      count = length-column n p 1 s 0 streams some.0;
      right = of.columns s 0 h (omega arith);
      agrees = λ m l free.
          let own : slice_index_or streams m [] ≡ stream_at n p s inputs b m = get_or-map-range_with_len (stream_at n p s inputs b) 0 n m m [] l (omega arith) in
          let at : data_place n p m s * 1 + 0 ≡ data_place n p m s = omega arith in
          index-column n p 1 s 0 m streams some.0 l
          ∙ cell_data n p 1 m s 0 (slice_index_or streams m []) (slice_index_or some.0 m []) free
          ∙ ap (λ xs. slice_index xs (data_place n p m s * 1 + 0)) own
          ∙ ap (slice_index (stream_at n p s inputs b m)) at
          ∙ get_or-replicate (data_place n p m s + 1) (data_place n p m s) (input_byte n p s inputs m b) 0 (omega arith);
    }

-- the byte of a piece is the target's in that column
column_byte : (scheme : Scheme) (n p s i b : ℕ) (inputs : List (List ℕ)) (piece : List ℕ)
    → IsKnown n (input_length inputs) (holds_parity n p s) (input_byte n p s inputs) (known_of n p s inputs)
    → IsCompleted scheme (known_of n p s inputs) i (input_length inputs) piece → b < input_length inputs → (col : IsColumnOf scheme n p s inputs b)
    → slice_index piece b ≡ slice_index col.bytes i
column_byte scheme n p s i b inputs piece k whole low col =
    whole.value b low col.bytes (col.count ∙ sym k.count) col.right
    (known_agrees n (input_length inputs) b (holds_parity n p s) (input_byte n p s inputs) (known_of n p s inputs) col.bytes k low col.agrees)

stripe_one : (scheme : Scheme) (p s i : ℕ) (inputs : List (List ℕ)) (xs ys : List ℕ) → p ≡ parity_count scheme → IsCoded scheme p s i inputs → AreBytes inputs
    → IsCompleted scheme (known_of (length inputs + p) p s inputs) i (input_length inputs) xs
    → IsCompleted scheme (known_of (length inputs + p) p s inputs) i (input_length inputs) ys → xs ≡ ys
stripe_one scheme p s i inputs xs ys ep c small left right =
    let n : ℕ = length inputs + p in
    let k = known_is n p s inputs c.of_stripe.stripe_in (omega arith) refl c.one in
    ext_get_or 0 xs ys (left.size ∙ sym right.size)
    (λ b l.
    let low : b < input_length inputs = omega (arith, left.size) in
    let col = some_column scheme n p s inputs b ep c.set c.of_stripe.stripe_in small in
    column_byte scheme n p s i b inputs xs k left low col ∙ sym (column_byte scheme n p s i b inputs ys k right low col))

pub one_piece : (scheme : Scheme) (s i : ℕ) (inputs : List (List ℕ)) (xs ys : List ℕ) → IsTrue (is_claim scheme s i inputs) → AreBytes inputs
    → (scheme ≡ Partner → xs ≡ slice_index_or inputs 0 []) → (scheme ≢ Partner → IsParityPiece scheme s i inputs xs)
    → (scheme ≡ Partner → ys ≡ slice_index_or inputs 0 []) → (scheme ≢ Partner → IsParityPiece scheme s i inputs ys) → xs ≡ ys
one_piece Single s i inputs xs ys fits small a b c d = absurd cc
one_piece Partner s i inputs xs ys fits small a b c d = a refl ∙ sym (c refl)
one_piece Xor s i inputs xs ys fits small a b c d =
    let other : Xor ≢ Partner = λ e. cc in
    stripe_one Xor 1 s i inputs xs ys refl (coded Xor 1 s i inputs refl (omega arith) fits) small (b other) (d other)
one_piece (Rs shares) s i inputs xs ys fits small a b c d =
    let other : Rs shares ≢ Partner = λ e. cc in
    stripe_one (Rs shares) shares s i inputs xs ys refl (coded (Rs shares) shares s i inputs refl (some_shares shares s i inputs fits) fits) small (b other) (d other)
