-- The deposits for a member's pieces are its share.
use Rattle.std.proofs.Common.{◌≡◌, ◌≢◌, ℕ, suc, ◌+◌, ◌<◌, ◌≤◌, ◌==◌, ◌&&◌, IsTrue, nat_lt, List, [], ◌∷◌, ◌++◌, length, map, take, drop, length-take, slice_index_or, All, refl, sym, ap, ap₂, subst, ◌∙◌, arith}
use Rattle.std.specs.List.{AllZip, flat_map}
use Rattle.std.proofs.Math.ListN.{drop_of_length-le}
use Rattle.std.proofs.lemmas.Bool.{eqb-true}
use Rattle.std.proofs.lemmas.List.{ext_get_or, get_or-take, get_or-drop, length-drop, drop-drop, take-append-drop}
use Rattle.std.proofs.lemmas.List.Elements.{All-nil, All-cons}
use Rattle.scr_base.specs.declared.shape.Scheme.{Scheme}
use Rattle.scr_base.specs.declared.shape.Scheme.TheVariants.{Single, Partner, Xor, Rs}
use Rattle.member_shares.specs.Shares.{IsSet, IsShare, segment_length}
use Rattle.commit_core.specs.Claims.{input_length, have_one_length, fits_members, is_claim}
use Rattle.commit_core.specs.Deposits.{IsParityPiece, IsPartAt, place_of}
use Rattle.commit_core.specs.PieceClaims.{AsksFor}
use Rattle.commit_core.specs.Pieces.{whole_piece, length_before, pieces_of_member, place_of_piece, FollowOn}
use Rattle.commit_core.specs.declared.claim.Claim.{Claim}
use Rattle.commit_core.specs.declared.deposit.Deposit.{Deposit}
use Rattle.commit_core.specs.declared.piece.Piece.{Piece}
use Rattle.commit_core.proofs.ClaimFacts.{both_of, stripe_claim}
use Rattle.commit_core.proofs.Parts.{deposit_part}
use Rattle.commit_core.proofs.Tiles.{pieces_follow, same_place}
use Rattle.commit_core.proofs.Claimable.{all_parity}

-- ---- one deposit
some_input : (scheme : Scheme) (stripe target count : ℕ) → IsTrue (fits_members scheme stripe target count) → 1 ≤ count
some_input Single stripe target count fits = absurd (cc)
some_input Partner stripe target count fits =
    let two = both_of (count == 1 && stripe == 0) (nat_lt target 16) fits in
    let one = both_of (count == 1) (stripe == 0) two.0 in
    omega (arith, eqb-true count 1 one.0)
some_input Xor stripe target count fits = (stripe_claim 1 stripe target count fits).some
some_input (Rs shares) stripe target count fits = (stripe_claim shares stripe target count fits).some

piece_long : (scheme : Scheme) (stripe target : ℕ) (inputs : List (List ℕ)) (bytes : List ℕ) → IsTrue (is_claim scheme stripe target inputs)
    → (scheme ≡ Partner → bytes ≡ slice_index_or inputs 0 []) → (scheme ≢ Partner → IsParityPiece scheme stripe target inputs bytes)
    → length bytes ≡ input_length inputs
piece_long Single stripe target inputs bytes fits copied completed = (completed (λ e. cc)).size
piece_long Partner stripe target inputs bytes fits copied completed = ap (length {A = ℕ}) (copied refl)
piece_long Xor stripe target inputs bytes fits copied completed = (completed (λ e. cc)).size
piece_long (Rs shares) stripe target inputs bytes fits copied completed = (completed (λ e. cc)).size

pub deposit_size : (scheme : Scheme) (streams : List (List ℕ)) (piece : Piece) (deposit : Deposit) → AsksFor scheme streams piece deposit.claim
    → length deposit.bytes ≡ piece.len
deposit_size scheme streams piece deposit asks =
    let claim : Claim = deposit.claim in
    let two = both_of (fits_members claim.scheme claim.stripe claim.target (length claim.inputs)) (have_one_length claim.inputs) claim.fits in
    piece_long claim.scheme claim.stripe claim.target claim.inputs deposit.bytes claim.fits deposit.right.copied deposit.right.completed
    ∙ asks.sizes 0 [] (omega (arith, some_input claim.scheme claim.stripe claim.target (length claim.inputs) two.0))

pub deposit_at : (scheme : Scheme) (streams : List (List ℕ)) (piece : Piece) (deposit : Deposit) (share : List ℕ) → AsksFor scheme streams piece deposit.claim
    → IsShare scheme streams piece.target share → IsPartAt (place_of_piece scheme streams piece) share deposit.bytes
deposit_at scheme streams piece deposit share asks own =
    let claim : Claim = deposit.claim in
    let share_is : IsShare claim.scheme streams claim.target share =
    subst (λ t. IsShare t streams claim.target share) (sym asks.scheme_is) (subst (λ t. IsShare scheme streams t share) (sym asks.target_is) own) in
    let there : place_of claim streams ≡ place_of_piece scheme streams piece =
    same_place claim piece streams asks.stripe_is asks.target_is asks.at_is ∙ ap (λ t. place_of_piece t streams piece) asks.scheme_is in
    subst (λ t. IsPartAt t share deposit.bytes) there
    (deposit_part claim.scheme claim streams share deposit.bytes claim.fits deposit.right.copied deposit.right.completed asks.inputs share_is)

-- ---- one behind the other
part_first : (from : ℕ) (whole part : List ℕ) → IsPartAt from whole part → drop from whole ≡ part ++ drop (from + length part) whole
part_first from whole part is =
    let front : take (length part) (drop from whole) ≡ part =
    ext_get_or 0 (take (length part) (drop from whole)) part (omega (arith, length-take (length part) (drop from whole), length-drop from whole, is.within))
    (λ b l.
    let low : b < length part = omega (arith, l, length-take (length part) (drop from whole)) in
    get_or-take (length part) (drop from whole) b 0 low ∙ get_or-drop from whole b 0 ∙ sym (is.bytes b low)) in
    sym (take-append-drop (length part) (drop from whole)) ∙ ap₂ (λ xs ys. xs ++ ys) front (drop-drop (length part) from whole)

record Fills (place : Piece → ℕ) (share : List ℕ) (piece : Piece) (bytes : List ℕ) : Type 0 where
  size : length bytes ≡ piece.len
  part : IsPartAt (place piece) share bytes

abbrev bytes_of : Deposit → List ℕ
bytes_of deposit = deposit.bytes

join : (place : Piece → ℕ) (share : List ℕ) (from : ℕ) (pieces : List Piece) (deposits : List Deposit) → FollowOn place from (length share) pieces
    → AllZip (λ piece deposit. Fills place share piece (bytes_of deposit)) pieces deposits → flat_map bytes_of deposits ≡ drop from share
join place share from [] [] run fill = sym (drop_of_length-le share (omega (arith, run)))
join place share from [] (deposit ∷ deposits) run fill = absurd fill
join place share from (piece ∷ pieces) [] run fill = absurd fill
join place share from (piece ∷ pieces) (deposit ∷ deposits) run fill =
    let next : from + piece.len ≡ from + length (bytes_of deposit) = ap (λ t. from + t) (sym fill.0.size) in
    let rest : flat_map bytes_of deposits ≡ drop (from + length (bytes_of deposit)) share =
    join place share (from + piece.len) pieces deposits run.1 fill.1 ∙ ap (λ t. drop t share) next in
    ap (λ xs. bytes_of deposit ++ xs) rest ∙ sym (part_first from share (bytes_of deposit) (subst (λ t. IsPartAt t share (bytes_of deposit)) run.0 fill.0.part))

own_target : (scheme : Scheme) (local group i : ℕ) (lengths : List ℕ) → All (λ piece. piece.target ≡ i) (pieces_of_member scheme local group lengths i)
own_target Single local group i lengths = All-nil (λ piece. piece.target ≡ i)
own_target Partner local group i lengths =
    All-cons (λ piece. piece.target ≡ i) (whole_piece local group i (length_before lengths i)) [] refl (All-nil (λ piece. piece.target ≡ i))
own_target Xor local group i lengths =
    all_parity (λ piece. piece.target ≡ i) (length lengths) 1 (whole_piece local group i (segment_length Xor lengths)) (λ s h held. refl)
own_target (Rs shares) local group i lengths =
    all_parity (λ piece. piece.target ≡ i) (length lengths) shares (whole_piece local group i (segment_length (Rs shares) lengths)) (λ s h held. refl)

filled : (scheme : Scheme) (i : ℕ) (streams : List (List ℕ)) (share : List ℕ) (pieces : List Piece) (deposits : List Deposit) → IsShare scheme streams i share
    → All (λ piece. piece.target ≡ i) pieces → AllZip (λ piece deposit. AsksFor scheme streams piece deposit.claim) pieces deposits
    → AllZip (λ piece deposit. Fills (place_of_piece scheme streams) share piece (bytes_of deposit)) pieces deposits
filled scheme i streams share [] [] own targets asked = asked
filled scheme i streams share [] (deposit ∷ deposits) own targets asked = absurd asked
filled scheme i streams share (piece ∷ pieces) [] own targets asked = absurd asked
filled scheme i streams share (piece ∷ pieces) (deposit ∷ deposits) own targets asked =
    let at : piece.target ≡ i = targets 0 piece (omega arith) in (
      record {
        size = deposit_size scheme streams piece deposit asked.0;
        part = deposit_at scheme streams piece deposit share asked.0 (subst (λ t. IsShare scheme streams t share) (sym at) own);
      },
      filled scheme i streams share pieces deposits own (λ k d l. targets (suc k) d (omega (arith, l))) asked.1,
    )

pub deposits_join : (scheme : Scheme) (local group i : ℕ) (streams : List (List ℕ)) (share : List ℕ) (deposits : List Deposit) → IsSet scheme (length streams)
    → i < length streams → IsShare scheme streams i share
    → AllZip (λ piece deposit. AsksFor scheme streams piece deposit.claim) (pieces_of_member scheme local group (map (length {A = ℕ}) streams) i) deposits
    → flat_map (λ deposit. deposit.bytes) deposits ≡ share
deposits_join scheme local group i streams share deposits set l own asked =
    let pieces : List Piece = pieces_of_member scheme local group (map (length {A = ℕ}) streams) i in
    join (place_of_piece scheme streams) share 0 pieces deposits (pieces_follow scheme local group i streams share set l own)
    (filled scheme i streams share pieces deposits own (own_target scheme local group i (map (length {A = ℕ}) streams)) asked)
