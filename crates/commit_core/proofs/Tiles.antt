-- The pieces of a target, and how they tile what it keeps.
use Rattle.std.proofs.Common.{◌≡◌, ℕ, zero, suc, ◌+◌, ◌-◌, ◌*◌, ◌%◌, ◌==◌, ◌&&◌, ◌<◌, ◌≤◌, Bool, true, false, List, [], ◌∷◌, ◌++◌, length, map, slice_index, add-one, refl, sym, ap, subst, ◌∙◌, arith, inl, inr}
use Rattle.std.specs.List.{filter, flat_map}
use Rattle.std.proofs.Math.ListN.{get_or-map}
use Rattle.std.proofs.lemmas.Bool.{cases_Bool, cases_lt, eq-eqb, ne_eqb, leb-true, and_left, and_right, and_from}
use Rattle.std.proofs.lemmas.List.{length-map, append-nil}
use Rattle.std.proofs.lemmas.List.Elements.{filter-append}
use Rattle.std.proofs.lemmas.Grind.{flat_map-append}
use Rattle.scr_base.specs.declared.shape.Scheme.{Scheme}
use Rattle.scr_base.specs.declared.shape.Scheme.TheVariants.{Single, Partner, Xor, Rs}
use Rattle.scr_base.specs.Sets.{numbers_below, group_count}
use Rattle.partner_copy.specs.Partner.{share_of}
use Rattle.member_shares.specs.Layout.{holds_parity, parity_place}
use Rattle.member_shares.specs.Shares.{parity_count, segment_length, IsParityShare, IsShare, IsSet}
use Rattle.member_shares.proofs.Places.{parity_all, parity_place_none, parity_place_in, parity_place_out}
use Rattle.redundancy_set.proofs.Joined.{next_place}
use Rattle.commit_core.specs.Deposits.{place_in, place_of}
use Rattle.commit_core.specs.Pieces.{whole_piece, in_stripe, parity_pieces, length_before, pieces_of_member, pieces_of_set, set_lengths, pieces_of_local, pieces_of, is_kept_by, place_of_piece, FollowOn}
use Rattle.commit_core.specs.declared.claim.Claim.{Claim}
use Rattle.commit_core.specs.declared.piece.Piece.{Piece}
use Rattle.commit_core.proofs.Listed.{numbers_more, kept, kept_in, kept_out}

-- ---- one behind the other
follow_more : (place : Piece → ℕ) (from mid to : ℕ) (pieces : List Piece) (piece : Piece) → FollowOn place from mid pieces → place piece ≡ mid → mid + piece.len ≡ to
    → FollowOn place from to (pieces ++ piece ∷ [])
follow_more place from mid to [] piece run at end = (at ∙ sym run, omega (arith, run, end))
follow_more place from mid to (first ∷ rest) piece run at end = (run.0, follow_more place (from + first.len) mid to rest piece run.1 at end)

kept_follow : (place : Piece → ℕ) (n p c m : ℕ) (piece : Piece) → piece.len ≡ c
    → ((s : ℕ) → place (in_stripe piece s) ≡ parity_place n p piece.target s * c) → FollowOn place 0 (parity_place n p piece.target m * c) (kept n p piece m)
kept_follow place n p c zero piece len at = rw (parity_place_none n p piece.target) (let e : 0 ≡ 0 * c = omega arith in e)
kept_follow place n p c (suc m) piece len at =
    let before = kept_follow place n p c m piece len at in
    elim (cases_Bool (holds_parity n p m piece.target)) [
      | inl held ↦
          let more : kept n p piece (suc m) ≡ kept n p piece m ++ in_stripe piece m ∷ [] = let e = kept_in n p m piece held in rw (add-one) at e in
          let end = next_place (parity_place n p piece.target m) (parity_place n p piece.target (suc m)) c (parity_place_in n p piece.target m held) in
          subst (FollowOn place 0 (parity_place n p piece.target (suc m) * c)) (sym more)
          (follow_more place 0 (parity_place n p piece.target m * c) (parity_place n p piece.target (suc m) * c) (kept n p piece m) (in_stripe piece m) before (at m) (omega (arith, end, len)))
      | inr free ↦
          let same : kept n p piece (suc m) ≡ kept n p piece m = let e = kept_out n p m piece free in rw (add-one) at e in
          subst (λ t. FollowOn place 0 (t * c) (kept n p piece (suc m))) (sym (parity_place_out n p piece.target m free))
          (subst (FollowOn place 0 (parity_place n p piece.target m * c)) (sym same) before)
    ]

parity_follow : (scheme : Scheme) (p local group i : ℕ) (streams : List (List ℕ)) (share : List ℕ) (place : Piece → ℕ) → p ≡ parity_count scheme → p ≤ length streams
    → i < length streams → IsParityShare scheme streams i share
    → ((s : ℕ) → place (in_stripe (whole_piece local group i (segment_length scheme (map (length {A = ℕ}) streams))) s)
    ≡ parity_place (length streams) p i s * segment_length scheme (map (length {A = ℕ}) streams))
    → FollowOn place 0 (length share)
    (parity_pieces (length (map (length {A = ℕ}) streams)) p (whole_piece local group i (segment_length scheme (map (length {A = ℕ}) streams))))
parity_follow scheme p local group i streams share place ep few l own at =
    let n : ℕ = length streams in
    let c : ℕ = segment_length scheme (map (length {A = ℕ}) streams) in
    let piece : Piece = whole_piece local group i c in
    let size : parity_place n p i n * c ≡ length share = ap (λ t. t * c) (parity_all n p i l few ∙ ep) ∙ sym (ap (length {A = ℕ}) own.own ∙ own.right.sizes i l) in
    subst (λ t. FollowOn place 0 (length share) (parity_pieces t p piece)) (sym (length-map streams (length {A = ℕ})))
    (subst (λ t. FollowOn place 0 t (kept n p piece n)) size (kept_follow place n p c n piece refl at))

before_length : (streams : List (List ℕ)) (i : ℕ) → length_before (map (length {A = ℕ}) streams) i ≡ length (share_of streams i)
before_length streams i =
    ap (λ t. slice_index (map (length {A = ℕ}) streams) ((i + t - 1) % t)) (length-map streams (length {A = ℕ}))
    ∙ get_or-map (length {A = ℕ}) streams ((i + length streams - 1) % length streams) []

pub pieces_follow : (scheme : Scheme) (local group i : ℕ) (streams : List (List ℕ)) (share : List ℕ) → IsSet scheme (length streams) → i < length streams
    → IsShare scheme streams i share
    → FollowOn (place_of_piece scheme streams) 0 (length share) (pieces_of_member scheme local group (map (length {A = ℕ}) streams) i)
pieces_follow Single local group i streams share set l own = sym (ap (length {A = ℕ}) own)
pieces_follow Partner local group i streams share set l own = (refl, omega (arith, before_length streams i, ap (length {A = ℕ}) own))
pieces_follow Xor local group i streams share set l own =
    parity_follow Xor 1 local group i streams share (place_of_piece Xor streams) refl set.some l own (λ s. omega arith)
pieces_follow (Rs shares) local group i streams share set l own =
    let few : shares + 1 ≤ length streams = leb-true (shares + 1) (length streams) set.fits in
    parity_follow (Rs shares) shares local group i streams share (place_of_piece (Rs shares) streams) refl (omega (arith, few)) l own (λ s. omega arith)

pub same_place : (claim : Claim) (piece : Piece) (streams : List (List ℕ)) → claim.stripe ≡ piece.stripe → claim.target ≡ piece.target → claim.at ≡ piece.at
    → place_of claim streams ≡ place_of_piece claim.scheme streams piece
same_place claim piece streams s t a =
    let n : ℕ = length streams in
    let c : ℕ = segment_length claim.scheme (map (length {A = ℕ}) streams) in
    ap (λ x. place_in claim.scheme n c x claim.target claim.at) s
    ∙ ap (λ x. place_in claim.scheme n c piece.stripe x claim.at) t
    ∙ ap (λ x. place_in claim.scheme n c piece.stripe piece.target x) a

-- ---- those of one member
-- a test of the three numbers that name the member
abbrev by : (ℕ → ℕ → ℕ → Bool) → Piece → Bool
by test piece = test piece.local piece.group piece.target

module _ (test : ℕ → ℕ → ℕ → Bool) (local group i : ℕ) where
  all_of : {X : Type 0} (f : X → Piece) (xs : List X) → ((x : X) → by test (f x) ≡ true) → filter (by test) (map f xs) ≡ map f xs
  all_of f [] same = refl
  all_of f (x ∷ xs) same = rw (same x) (ap (λ ys. f x ∷ ys) (all_of f xs same))

  none_of : {X : Type 0} (f : X → Piece) (xs : List X) → ((x : X) → by test (f x) ≡ false) → filter (by test) (map f xs) ≡ []
  none_of f [] other = refl
  none_of f (x ∷ xs) other = rw (other x) (none_of f xs other)

  member_own : (scheme : Scheme) (lengths : List ℕ) → test local group i ≡ true
      → filter (by test) (pieces_of_member scheme local group lengths i) ≡ pieces_of_member scheme local group lengths i
  member_own Single lengths e = refl
  member_own Partner lengths e = all_of (whole_piece local group i) (length_before lengths i ∷ []) (λ x. e)
  member_own Xor lengths e =
      all_of (in_stripe (whole_piece local group i (segment_length Xor lengths))) (filter (λ s. holds_parity (length lengths) 1 s i) (numbers_below (length lengths))) (λ s. e)
  member_own (Rs shares) lengths e =
      all_of (in_stripe (whole_piece local group i (segment_length (Rs shares) lengths))) (filter (λ s. holds_parity (length lengths) shares s i) (numbers_below (length lengths)))
      (λ s. e)

  member_other : (scheme : Scheme) (lengths : List ℕ) → test local group i ≡ false → filter (by test) (pieces_of_member scheme local group lengths i) ≡ []
  member_other Single lengths e = refl
  member_other Partner lengths e = none_of (whole_piece local group i) (length_before lengths i ∷ []) (λ x. e)
  member_other Xor lengths e =
      none_of (in_stripe (whole_piece local group i (segment_length Xor lengths))) (filter (λ s. holds_parity (length lengths) 1 s i) (numbers_below (length lengths))) (λ s. e)
  member_other (Rs shares) lengths e =
      none_of (in_stripe (whole_piece local group i (segment_length (Rs shares) lengths))) (filter (λ s. holds_parity (length lengths) shares s i) (numbers_below (length lengths)))
      (λ s. e)

-- of lists that are put one behind the other, one for each number, what passes in one more
passed_more : {X : Type 0} (q : X → Bool) (f : ℕ → List X) (m : ℕ)
    → filter q (flat_map f (numbers_below (suc m))) ≡ filter q (flat_map f (numbers_below m)) ++ filter q (f m)
passed_more q f m =
    let more : numbers_below (suc m) ≡ numbers_below m ++ m ∷ [] = let e = numbers_more m in rw (add-one) at e in
    ap (λ xs. filter q (flat_map f xs)) more ∙ ap (filter q) (flat_map-append f (numbers_below m) (m ∷ [])) ∙ filter-append q (flat_map f (numbers_below m)) (f m ++ [])
    ∙ ap (λ xs. filter q (flat_map f (numbers_below m)) ++ filter q xs) (append-nil (f m))

-- only of number i's does anything pass
none_before : {X : Type 0} (q : X → Bool) (f : ℕ → List X) (i m : ℕ) → ((j : ℕ) → (j == i) ≡ false → filter q (f j) ≡ []) → m ≤ i
    → filter q (flat_map f (numbers_below m)) ≡ []
none_before q f i zero other h = refl
none_before q f i (suc m) other h =
    let apart : (m == i) ≡ false = ne_eqb m i (λ e. omega (arith, e)) in
    passed_more q f m ∙ ap (λ xs. xs ++ filter q (f m)) (none_before q f i m other (omega arith)) ∙ other m apart

only_one : {X : Type 0} (q : X → Bool) (f : ℕ → List X) (i m : ℕ) → ((j : ℕ) → (j == i) ≡ false → filter q (f j) ≡ []) → i < m
    → filter q (flat_map f (numbers_below m)) ≡ filter q (f i)
only_one q f i zero other h = absurd (omega arith)
only_one q f i (suc m) other h =
    elim (cases_lt i m) [
      | inl low ↦
          let apart : (m == i) ≡ false = ne_eqb m i (λ e. omega (arith, e)) in
          passed_more q f m ∙ ap (λ xs. xs ++ filter q (f m)) (only_one q f i m other low) ∙ ap (λ xs. filter q (f i) ++ xs) (other m apart) ∙ append-nil (filter q (f i))
      | inr high ↦
          let top : m ≡ i = omega arith in
          passed_more q f m ∙ ap (λ xs. xs ++ filter q (f m)) (none_before q f i m other (omega arith)) ∙ ap (λ t. filter q (f t)) top
    ]

none_passes : {X : Type 0} (q : X → Bool) (f : ℕ → List X) (m : ℕ) → ((j : ℕ) → filter q (f j) ≡ []) → filter q (flat_map f (numbers_below m)) ≡ []
none_passes q f zero none = refl
none_passes q f (suc m) none = passed_more q f m ∙ ap (λ xs. xs ++ filter q (f m)) (none_passes q f m none) ∙ none m

pub of_member : (scheme : Scheme) (nodes ranks size local group i : ℕ) (lengths : List ℕ) → local < ranks → group < group_count nodes size
    → i < length (set_lengths nodes ranks size group local lengths)
    → filter (is_kept_by local group i) (pieces_of scheme nodes ranks size lengths) ≡ pieces_of_member scheme local group (set_lengths nodes ranks size group local lengths) i
of_member scheme nodes ranks size local group i lengths l g low =
    only_one (by test) (pieces_of_local scheme nodes ranks size lengths) local ranks (λ j apart. other_local j apart) l
    ∙ only_one (by test) (λ h. pieces_of_set scheme local h (own h)) group (group_count nodes size) (λ h apart. other_group h apart) g
    ∙ only_one (by test) (pieces_of_member scheme local group (own group)) i (length (own group))
    (λ j apart. member_other test local group j scheme (own group) (and_right ((local == local) && (group == group)) (j == i) apart)) low
    ∙ member_own test local group i scheme (own group) (and_from ((local == local) && (group == group)) (i == i) (and_from (local == local) (group == group) (eq-eqb local local refl) (eq-eqb group group refl)) (eq-eqb i i refl))
  where
    test : ℕ → ℕ → ℕ → Bool
    test a b c = a == local && b == group && c == i

    own : ℕ → List ℕ
    own h = set_lengths nodes ranks size h local lengths

    other_local : (j : ℕ) → (j == local) ≡ false → filter (by test) (pieces_of_local scheme nodes ranks size lengths j) ≡ []
    other_local j apart =
        none_passes (by test) (λ h. pieces_of_set scheme j h (set_lengths nodes ranks size h j lengths)) (group_count nodes size)
        (λ h.
        none_passes (by test) (pieces_of_member scheme j h (set_lengths nodes ranks size h j lengths)) (length (set_lengths nodes ranks size h j lengths))
        (λ k. member_other test j h k scheme (set_lengths nodes ranks size h j lengths) (and_left (j == local && h == group) (k == i) (and_left (j == local) (h == group) apart))))

    other_group : (h : ℕ) → (h == group) ≡ false → filter (by test) (pieces_of_set scheme local h (own h)) ≡ []
    other_group h apart =
        none_passes (by test) (pieces_of_member scheme local h (own h)) (length (own h))
        (λ k. member_other test local h k scheme (own h) (and_left (local == local && h == group) (k == i) (and_right (local == local) (h == group) apart)))
