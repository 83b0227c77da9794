-- A deposit's bytes are a part of the target's share.
use Rattle.std.proofs.Common.{◌≡◌, ◌≢◌, ℕ, ◌+◌, ◌*◌, ◌<◌, ◌≤◌, true, IsTrue, List, [], length, map, slice_index, slice_index_or, refl, sym, ap, subst, ◌∙◌, arith}
use Rattle.scr_base.specs.declared.shape.Scheme.{Scheme}
use Rattle.scr_base.specs.declared.shape.Scheme.TheVariants.{Single, Partner, Xor, Rs}
use Rattle.partner_copy.specs.Partner.{share_of}
use Rattle.member_shares.specs.Layout.{holds_parity, parity_place, column}
use Rattle.member_shares.specs.Shares.{parity_count, segment_length, AreParityShares, IsParityShare, IsShare}
use Rattle.member_shares.proofs.Ranks.{stands_at}
use Rattle.member_shares.proofs.Places.{parity_all}
use Rattle.member_shares.proofs.Columns.{length-column, index-column, cell_parity, cell_data}
use Rattle.redundancy_set.specs.Known.{IsCompleted}
use Rattle.redundancy_set.proofs.KnownLemmas.{known_agrees}
use Rattle.redundancy_set.proofs.Joined.{rows_fit}
use Rattle.redundancy_set.proofs.Segments.{AreSharesOf, shares_of}
use Rattle.commit_core.specs.Claims.{input_length, have_one_length, fits_members, is_stripe_claim, is_claim}
use Rattle.commit_core.specs.Deposits.{known_of, IsParityPiece, IsPartAt, AreSegmentParts, AreInputsUnder, place_under}
use Rattle.commit_core.specs.declared.claim.Claim.{Claim}
use Rattle.commit_core.proofs.ClaimFacts.{both_of, stripe_claim}
use Rattle.commit_core.proofs.Known.{known_is, input_byte}

-- a byte of the piece, in a list of shares
piece_byte : (scheme : Scheme) (n p c s i from : ℕ) (streams shares inputs : List (List ℕ)) (piece : List ℕ) → AreSharesOf scheme n p c streams shares
    → s < n → i < n → p ≤ n → holds_parity n p s i ≡ true → IsTrue (have_one_length inputs) → AreSegmentParts n p c s from streams inputs
    → IsCompleted scheme (known_of n p s inputs) i (input_length inputs) piece
    → (b : ℕ) → b < input_length inputs → slice_index piece b ≡ slice_index (slice_index_or shares i []) (parity_place n p i s * c + from + b)
piece_byte scheme n p c s i from streams shares inputs piece right h l few held one parts whole b low =
    let at : from + b < c = omega (arith, parts.within) in
    let col : List ℕ = column n p c s (from + b) streams shares in
    let k = known_is n p s inputs h few parts.count one in
    let far : parity_place n p i s * c + (from + b) ≡ parity_place n p i s * c + from + b = omega arith in
    whole.value b low col (length-column n p c s (from + b) streams shares ∙ sym k.count) (right.columns s (from + b) h at)
    (known_agrees n (input_length inputs) b (holds_parity n p s) (input_byte n p s inputs) (known_of n p s inputs) col k low
    (λ m small free.
    index-column n p c s (from + b) m streams shares small
    ∙ cell_data n p c m s (from + b) (slice_index_or streams m []) (slice_index_or shares m []) free
    ∙ sym (parts.bytes m b small free low)))
    ∙ index-column n p c s (from + b) i streams shares l
    ∙ cell_parity n p c i s (from + b) (slice_index_or streams i []) (slice_index_or shares i []) held
    ∙ ap (slice_index (slice_index_or shares i [])) far

-- a segment of a stripe is one of those of the share
place_low : (n p i s : ℕ) → i < n → p ≤ n → s < n → holds_parity n p s i ≡ true → parity_place n p i s < p
unfolding parity_place
place_low n p i s l few h held =
    let own = stands_at (λ t. holds_parity n p t i) n s h held in
    omega (arith, own.within, parity_all n p i l few)

parity_part : (scheme : Scheme) (n p c s i from : ℕ) (streams inputs : List (List ℕ)) (share piece : List ℕ) → n ≡ length streams → p ≡ parity_count scheme
    → segment_length scheme (map (length {A = ℕ}) streams) ≡ c → s < n → i < n → p ≤ n → holds_parity n p s i ≡ true → IsTrue (have_one_length inputs)
    → AreSegmentParts n p c s from streams inputs → IsCompleted scheme (known_of n p s inputs) i (input_length inputs) piece
    → IsParityShare scheme streams i share → IsPartAt (parity_place n p i s * c + from) share piece
parity_part scheme n p c s i from streams inputs share piece en ep len h l few held one parts whole own =
    let right : AreParityShares scheme c streams own.shares = subst (λ t. AreParityShares scheme t streams own.shares) len own.right in
    let of = shares_of scheme n p c streams own.shares en ep right in
    let room : length share ≡ p * c = ap (length {A = ℕ}) own.own ∙ of.sizes i l in
    record {
      within = omega (arith, room, rows_fit (parity_place n p i s) p c (let low = place_low n p i s l few h held in omega arith), parts.within, whole.size);
      bytes = λ b low.
          piece_byte scheme n p c s i from streams own.shares inputs piece of h l few held one parts whole b (omega (arith, whole.size))
          ∙ ap (λ xs. slice_index xs (parity_place n p i s * c + from + b)) (sym own.own);
    }

-- the same for the set of a claim
stripe_part : (scheme : Scheme) (p s i from : ℕ) (streams inputs : List (List ℕ)) (share piece : List ℕ) → p ≡ parity_count scheme
    → IsTrue (is_stripe_claim p s i (length inputs)) → IsTrue (have_one_length inputs)
    → AreSegmentParts (length streams) p (segment_length scheme (map (length {A = ℕ}) streams)) s from streams inputs
    → IsCompleted scheme (known_of (length inputs + p) p s inputs) i (input_length inputs) piece
    → IsParityShare scheme streams i share
    → IsPartAt (parity_place (length streams) p i s * segment_length scheme (map (length {A = ℕ}) streams) + from) share piece
stripe_part scheme p s i from streams inputs share piece ep fits one parts whole own =
    let f = stripe_claim p s i (length inputs) fits in
    let n : ℕ = length streams in
    let e : length inputs + p ≡ n = parts.count in
    parity_part scheme n p (segment_length scheme (map (length {A = ℕ}) streams)) s i from streams inputs share piece refl ep refl
    (omega (arith, f.stripe_in, e)) (omega (arith, f.target_in, e)) (omega (arith, e)) (subst (λ t. holds_parity t p s i ≡ true) e f.parity) one parts
    (subst (λ t. IsCompleted scheme (known_of t p s inputs) i (input_length inputs) piece) e whole) own

pub deposit_part : (scheme : Scheme) (claim : Claim) (streams : List (List ℕ)) (share piece : List ℕ) → IsTrue (is_claim scheme claim.stripe claim.target claim.inputs)
    → (scheme ≡ Partner → piece ≡ slice_index_or claim.inputs 0 []) → (scheme ≢ Partner → IsParityPiece scheme claim.stripe claim.target claim.inputs piece)
    → AreInputsUnder scheme claim streams → IsShare scheme streams claim.target share → IsPartAt (place_under scheme claim streams) share piece
deposit_part Single claim streams share piece fits copied completed inputs own = absurd inputs
deposit_part Partner claim streams share piece fits copied completed inputs own =
    subst (λ xs. IsPartAt claim.at xs piece) (sym own) (subst (IsPartAt claim.at (share_of streams claim.target)) (sym (copied refl)) inputs)
deposit_part Xor claim streams share piece fits copied completed inputs own =
    let two = both_of (fits_members Xor claim.stripe claim.target (length claim.inputs)) (have_one_length claim.inputs) fits in
    let other : Xor ≢ Partner = λ e. cc in
    stripe_part Xor 1 claim.stripe claim.target claim.at streams claim.inputs share piece refl two.0 two.1 inputs (completed other) own
deposit_part (Rs shares) claim streams share piece fits copied completed inputs own =
    let two = both_of (fits_members (Rs shares) claim.stripe claim.target (length claim.inputs)) (have_one_length claim.inputs) fits in
    let other : Rs shares ≢ Partner = λ e. cc in
    stripe_part (Rs shares) shares claim.stripe claim.target claim.at streams claim.inputs share piece refl two.0 two.1 inputs (completed other) own
