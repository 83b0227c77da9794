-- The pieces of a set, one more at a time.
use Rattle.std.proofs.Common.{◌≡◌, ℕ, ◌+◌, ◌-◌, true, false, List, [], ◌∷◌, ◌++◌, length, map, add-one, sym, ap, ap₂, ◌∙◌, arith}
use Rattle.std.specs.Int.{div_ceil}
use Rattle.std.specs.List.{filter, flat_map}
use Rattle.std.proofs.lemmas.List.{append_assoc, map_push, map-id, flat_map_more}
use Rattle.std.proofs.lemmas.List.FromFn.{map-range_with_len_more}
use Rattle.scr_base.specs.declared.shape.Scheme.{Scheme}
use Rattle.scr_base.specs.Sets.{numbers_below}
use Rattle.member_shares.specs.Layout.{holds_parity}
use Rattle.member_shares.specs.Shares.{parity_count, longest, segment_length}
use Rattle.member_shares.proofs.Ranks.{one_in, one_out}
use Rattle.commit_core.specs.declared.piece.Piece.{Piece}
use Rattle.commit_core.specs.Pieces.{in_stripe}

pub numbers_more : (n : ℕ) → numbers_below (n + 1) ≡ numbers_below n ++ n ∷ []
numbers_more n =
    sym (map-id (numbers_below (n + 1))) ∙ map-range_with_len_more (λ x. x) 0 n n (omega arith) ∙ ap (λ xs. xs ++ n ∷ []) (map-id (numbers_below n))

-- the pieces of a target in the first m stripes
abbrev pub kept : (n p : ℕ) → Piece → ℕ → List Piece
kept n p piece m = map (in_stripe piece) (filter (λ s. holds_parity n p s piece.target) (numbers_below m))

pub kept_in : (n p m : ℕ) (piece : Piece) → holds_parity n p m piece.target ≡ true → kept n p piece (m + 1) ≡ kept n p piece m ++ in_stripe piece m ∷ []
kept_in n p m piece e =
    rw add-one
    (ap (map (in_stripe piece)) (one_in (λ s. holds_parity n p s piece.target) m e)
    ∙ map_push (in_stripe piece) (filter (λ s. holds_parity n p s piece.target) (numbers_below m)) m)

pub kept_out : (n p m : ℕ) (piece : Piece) → holds_parity n p m piece.target ≡ false → kept n p piece (m + 1) ≡ kept n p piece m
kept_out n p m piece e = rw add-one (ap (map (in_stripe piece)) (one_out (λ s. holds_parity n p s piece.target) m e))

pub stripe_in : (n p m : ℕ) (piece : Piece) (front old new : List Piece) → holds_parity n p m piece.target ≡ true → old ≡ front ++ kept n p piece m
    → new ≡ old ++ in_stripe piece m ∷ [] → new ≡ front ++ kept n p piece (m + 1)
stripe_in n p m piece front old new e before is =
    is ∙ ap (λ xs. xs ++ in_stripe piece m ∷ []) before ∙ append_assoc front (kept n p piece m) (in_stripe piece m ∷ [])
    ∙ ap (λ xs. front ++ xs) (sym (kept_in n p m piece e))

pub stripe_out : (n p m : ℕ) (piece : Piece) (front old new : List Piece) → holds_parity n p m piece.target ≡ false → old ≡ front ++ kept n p piece m
    → new ≡ old → new ≡ front ++ kept n p piece (m + 1)
stripe_out n p m piece front old new e before is = is ∙ before ∙ ap (λ xs. front ++ xs) (sym (kept_out n p m piece e))

-- the length of a segment
pub segment_is : (scheme : Scheme) (lengths : List ℕ) (most members len : ℕ) → most ≡ longest lengths → members ≡ length lengths
    → len ≡ div_ceil most (members - parity_count scheme) → len ≡ segment_length scheme lengths
unfolding segment_length
segment_is scheme lengths most members len e f is = is ∙ ap₂ (λ a b. div_ceil a (b - parity_count scheme)) e f

-- a number's list more
pub run_more : {X : Type 0} (f : ℕ → List X) (m : ℕ) (front old new : List X) → old ≡ front ++ flat_map f (numbers_below m) → new ≡ old ++ f m
    → new ≡ front ++ flat_map f (numbers_below (m + 1))
run_more f m front old new before is =
    is ∙ ap (λ xs. xs ++ f m) before ∙ flat_map_more f front (numbers_below m) m ∙ ap (λ xs. front ++ flat_map f xs) (sym (numbers_more m))
