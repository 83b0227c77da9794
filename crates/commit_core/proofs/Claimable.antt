-- A piece can be claimed.
use Rattle.std.proofs.Common.{◌≡◌, ℕ, zero, suc, ◌+◌, ◌-◌, ◌<◌, ◌≤◌, ◌==◌, Bool, true, ◌&&◌, IsTrue, nat_le, nat_lt, List, [], ◌∷◌, ◌++◌, length, slice_index_or, All, Contains, add-one, refl, sym, ap, subst, ◌∙◌, arith}
use Rattle.std.specs.List.{filter, flat_map}
use Rattle.std.proofs.lemmas.Bool.{and_from, eq-eqb, leb-true, le-leb, lt-ltb}
use Rattle.std.proofs.lemmas.List.{append-nil}
use Rattle.std.proofs.lemmas.List.Elements.{All-nil, All-cons, All-append, All-map, All-from_get_or}
use Rattle.std.proofs.lemmas.List.Sums.{list_all-from_AllPass}
use Rattle.std.proofs.lemmas.Grind.{flat_map-append}
use Rattle.scr_base.specs.declared.shape.Scheme.{Scheme}
use Rattle.scr_base.specs.declared.shape.Scheme.TheVariants.{Single, Partner, Xor, Rs}
use Rattle.scr_base.specs.Sets.{numbers_below, group_count, nodes_of_group, fits_sets}
use Rattle.member_shares.specs.Layout.{holds_parity}
use Rattle.member_shares.specs.Shares.{IsSet, segment_length}
use Rattle.member_shares.proofs.Ranks.{has_rank}
use Rattle.commit_core.specs.Claims.{input_length, have_one_length, fits_members, is_stripe_claim, is_claim}
use Rattle.commit_core.specs.PieceClaims.{input_count}
use Rattle.commit_core.specs.Pieces.{whole_piece, in_stripe, parity_pieces, length_before, pieces_of_member, pieces_of_set, set_lengths, pieces_of_local, pieces_of}
use Rattle.commit_core.specs.declared.piece.Piece.{Piece}
use Rattle.commit_core.proofs.Listed.{numbers_more}
use Rattle.commit_core.proofs.SetLengths.{set_is, length-lengths}

-- what holds of the elements of lists holds of those of the lists one behind the other
pub all_flat : {X : Type 0} (P : X → Type 0) (f : ℕ → List X) (m : ℕ) → ((j : ℕ) → j < m → All P (f j)) → All P (flat_map f (numbers_below m))
all_flat P f zero each = All-nil P
all_flat P f (suc m) each =
    let more : numbers_below (suc m) ≡ numbers_below m ++ m ∷ [] = let e = numbers_more m in rw (add-one) at e in
    let joined : flat_map f (numbers_below (suc m)) ≡ flat_map f (numbers_below m) ++ f m =
    ap (flat_map f) more ∙ flat_map-append f (numbers_below m) (m ∷ []) ∙ ap (λ xs. flat_map f (numbers_below m) ++ xs) (append-nil (f m)) in
    subst (All P) (sym joined)
    (All-append P (flat_map f (numbers_below m)) (f m) (all_flat P f m (λ j l. each j (omega (arith, l)))) (each m (omega arith)))

pub all_at : {X : Type 0} (P : X → Type 0) (xs : List X) (x : X) → All P xs → Contains xs x → P x
all_at P xs x all among = subst P among.2 (all among.0 x among.1)

-- the stripe and the target of a piece fit a set of so many members, which its group tells
abbrev Fits : Scheme → (ℕ → ℕ) → Piece → Type 0
Fits scheme size_of piece = IsTrue (fits_members scheme piece.stripe piece.target (input_count scheme (size_of piece.group)))

stripe_fits : (p stripe target count n : ℕ) → count + p ≡ n → 1 ≤ count → n ≤ 16 → stripe < n → target < n → holds_parity n p stripe target ≡ true
    → IsTrue (is_stripe_claim p stripe target count)
stripe_fits p stripe target count n all some few h l held =
    let m : ℕ = count + p in
    let a : nat_le 1 count ≡ true = le-leb 1 count some in
    let b : nat_le m 16 ≡ true = le-leb m 16 (omega (arith, all, few)) in
    let c : nat_lt stripe m ≡ true = lt-ltb stripe m (omega (arith, all, h)) in
    let d : nat_lt target m ≡ true = lt-ltb target m (omega (arith, all, l)) in
    let e : holds_parity m p stripe target ≡ true = subst (λ t. holds_parity t p stripe target ≡ true) (sym all) held in
    and_from (nat_le 1 count && nat_le m 16 && nat_lt stripe m && nat_lt target m) (holds_parity m p stripe target)
    (and_from (nat_le 1 count && nat_le m 16 && nat_lt stripe m) (nat_lt target m)
    (and_from (nat_le 1 count && nat_le m 16) (nat_lt stripe m) (and_from (nat_le 1 count) (nat_le m 16) a b) c) d) e

-- what holds wherever the target has parity holds of each of its pieces
pub all_parity : (P : Piece → Type 0) (n p : ℕ) (piece : Piece) → ((s : ℕ) → s < n → holds_parity n p s piece.target ≡ true → P (in_stripe piece s))
    → All P (parity_pieces n p piece)
all_parity P n p piece each =
    let held : ℕ → Bool = λ s. holds_parity n p s piece.target in
    All-map P (in_stripe piece) (filter held (numbers_below n))
    (All-from_get_or (λ s. P (in_stripe piece s)) (filter held (numbers_below n)) 0
    (λ k l. let own = has_rank held n k l in each (slice_index_or (filter held (numbers_below n)) k 0) own.below own.passes))

member_fits : (scheme : Scheme) (local group i : ℕ) (lengths : List ℕ) (size_of : ℕ → ℕ) → size_of group ≡ length lengths → IsSet scheme (length lengths)
    → i < length lengths → All (Fits scheme size_of) (pieces_of_member scheme local group lengths i)
member_fits Single local group i lengths size_of size set l = All-nil (Fits Single size_of)
member_fits Partner local group i lengths size_of size set l =
    let low : nat_lt i 16 ≡ true = lt-ltb i 16 (omega (arith, l, set.few)) in
    All-cons (Fits Partner size_of) (whole_piece local group i (length_before lengths i)) [] low (All-nil (Fits Partner size_of))
member_fits Xor local group i lengths size_of size set l =
    let n : ℕ = length lengths in
    let two : 2 ≤ n = leb-true 2 n set.fits in
    all_parity (Fits Xor size_of) n 1 (whole_piece local group i (segment_length Xor lengths))
    (λ s h held. stripe_fits 1 s i (size_of group - 1) n (omega (arith, size, two)) (omega (arith, size, two)) set.few h l held)
member_fits (Rs shares) local group i lengths size_of size set l =
    let n : ℕ = length lengths in
    let more : shares + 1 ≤ n = leb-true (shares + 1) n set.fits in
    all_parity (Fits (Rs shares) size_of) n shares (whole_piece local group i (segment_length (Rs shares) lengths))
    (λ s h held. stripe_fits shares s i (size_of group - shares) n (omega (arith, size, more)) (omega (arith, size, more)) set.few h l held)

set_fits : (scheme : Scheme) (local group : ℕ) (lengths : List ℕ) (size_of : ℕ → ℕ) → size_of group ≡ length lengths → IsSet scheme (length lengths)
    → All (Fits scheme size_of) (pieces_of_set scheme local group lengths)
set_fits scheme local group lengths size_of size set =
    all_flat (Fits scheme size_of) (pieces_of_member scheme local group lengths) (length lengths) (λ i l. member_fits scheme local group i lengths size_of size set l)

dataset_fits : (scheme : Scheme) (nodes ranks size : ℕ) (lengths : List ℕ) → 1 ≤ nodes → nodes ≤ 16 → IsTrue (fits_sets scheme size nodes)
    → All (Fits scheme (λ group. length (nodes_of_group nodes size group))) (pieces_of scheme nodes ranks size lengths)
dataset_fits scheme nodes ranks size lengths some few fits =
    let size_of : ℕ → ℕ = λ group. length (nodes_of_group nodes size group) in
    all_flat (Fits scheme size_of) (pieces_of_local scheme nodes ranks size lengths) ranks
    (λ local l.
    all_flat (Fits scheme size_of) (λ group. pieces_of_set scheme local group (set_lengths nodes ranks size group local lengths)) (group_count nodes size)
    (λ group g.
    set_fits scheme local group (set_lengths nodes ranks size group local lengths) size_of (sym (length-lengths nodes ranks size group local lengths))
    (set_is scheme nodes ranks size group local lengths some few g fits)))

-- ---- with the inputs
same_length : (len : ℕ) (inputs : List (List ℕ)) → All (λ input. length input ≡ len) inputs → IsTrue (have_one_length inputs)
same_length len inputs sizes =
    list_all-from_AllPass (λ input. length input == input_length inputs) inputs
    (λ i d l.
    eq-eqb (length (slice_index_or inputs i d)) (input_length inputs) (sizes i d l ∙ sym (sizes 0 [] (omega (arith, l)))))

claim_of : (scheme : Scheme) (stripe target count len : ℕ) (inputs : List (List ℕ)) → IsTrue (fits_members scheme stripe target count) → length inputs ≡ count
    → All (λ input. length input ≡ len) inputs → IsTrue (is_claim scheme stripe target inputs)
claim_of scheme stripe target count len inputs fits all sizes =
    and_from (fits_members scheme stripe target (length inputs)) (have_one_length inputs)
    (subst (λ t. IsTrue (fits_members scheme stripe target t)) (sym all) fits) (same_length len inputs sizes)

pub set_claim : (scheme : Scheme) (local group : ℕ) (lengths : List ℕ) (piece : Piece) (inputs : List (List ℕ)) → IsSet scheme (length lengths)
    → Contains (pieces_of_set scheme local group lengths) piece → length inputs ≡ input_count scheme (length lengths)
    → All (λ input. length input ≡ piece.len) inputs → IsTrue (is_claim scheme piece.stripe piece.target inputs)
set_claim scheme local group lengths piece inputs set among count sizes =
    let size_of : ℕ → ℕ = λ other. length lengths in
    claim_of scheme piece.stripe piece.target (input_count scheme (length lengths)) piece.len inputs
    (all_at (Fits scheme size_of) (pieces_of_set scheme local group lengths) piece (set_fits scheme local group lengths size_of refl set) among) count sizes

pub dataset_claim : (scheme : Scheme) (nodes ranks size : ℕ) (lengths : List ℕ) (piece : Piece) (inputs : List (List ℕ)) → 1 ≤ nodes → nodes ≤ 16
    → IsTrue (fits_sets scheme size nodes) → Contains (pieces_of scheme nodes ranks size lengths) piece
    → length inputs ≡ input_count scheme (length (nodes_of_group nodes size piece.group)) → All (λ input. length input ≡ piece.len) inputs
    → IsTrue (is_claim scheme piece.stripe piece.target inputs)
dataset_claim scheme nodes ranks size lengths piece inputs some few fits among count sizes =
    claim_of scheme piece.stripe piece.target (input_count scheme (length (nodes_of_group nodes size piece.group))) piece.len inputs
    (all_at (Fits scheme (λ group. length (nodes_of_group nodes size group))) (pieces_of scheme nodes ranks size lengths) piece (dataset_fits scheme nodes ranks size lengths some few fits) among)
    count sizes
