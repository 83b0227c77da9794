-- The claims that are out, after each step of a commit.
use Rattle.std.proofs.Common.{◌≡◌, ◌≢◌, ℕ, ◌+◌, ◌<◌, ◌≤◌, Bool, true, if◌then◌else◌, List, [], ◌∷◌, ◌++◌, length, slice_set, Option, Some, None, refl, sym, ap, subst, ◌∙◌, arith, inl, inr}
use Rattle.std.specs.Prelude.{slice_get, get_or, option_and_then}
use Rattle.std.proofs.lemmas.Bool.{cases_lt}
use Rattle.std.proofs.lemmas.List.{length-set, get_or-set_same, get_or-set_other, get_or_append_left, get_or_push, length_push}
use Rattle.std.proofs.lemmas.List.Quantifiers.{all_pairs_push, position-Some}
use Rattle.std.proofs.lemmas.Option.{slice_get_within, slice_get-get_or, get_or_from_slice_get}
use Rattle.commit_core.specs.declared.claim.Claim.{Claim}
use Rattle.commit_core.specs.declared.piece.Piece.{Piece}
use Rattle.commit_core.specs.declared.set.CommitSet.{CommitSet}
use Rattle.commit_core.specs.declared.standing.Standing.{Standing}
use Rattle.commit_core.specs.declared.standing.Standing.TheVariants.{Unclaimed, Out, Done}
use Rattle.commit_core.specs.Claiming.{IsClaimFor, IsOutFor, AreOut}
use Rattle.commit_core.specs.LedgerBook.{Book, is_unclaimed, first_of, next_of, may_number, after_taking, after_taking_at}

-- ## Lists

pub at_place : {X : Type 0} (xs : List X) (i : ℕ) (x d : X) → i < length xs → get_or xs i d ≡ x → slice_get xs i ≡ Some x
at_place xs i x d low is = slice_get-get_or xs i d low ∙ ap Some is

pub set_there : {X : Type 0} (xs : List X) (i : ℕ) (x : X) → i < length xs → slice_get (slice_set xs i x) i ≡ Some x
set_there xs i x low = at_place (slice_set xs i x) i x x (omega (arith, low, length-set xs i x)) (get_or-set_same xs i x x low)

pub set_other : {X : Type 0} (xs : List X) (i j : ℕ) (x y : X) → j ≢ i → slice_get xs j ≡ Some y → slice_get (slice_set xs i x) j ≡ Some y
set_other xs i j x y other is = at_place (slice_set xs i x) j y y (omega (arith, slice_get_within xs j y is, length-set xs i x)) (get_or-set_other xs i j x y other ∙ get_or_from_slice_get xs j y y is)

-- an element of a list with one more at its end
pub data IsPushed {X : Type 0} (xs : List X) (x : X) (k : ℕ) (y : X) : Type 0 where
  Before : slice_get xs k ≡ Some y → IsPushed xs x k y
  Last : y ≡ x → IsPushed xs x k y

pub pushed_at : {X : Type 0} (xs : List X) (x : X) (k : ℕ) (y : X) → slice_get (xs ++ x ∷ []) k ≡ Some y → IsPushed xs x k y
pushed_at xs x k y is = elim (cases_lt k (length xs)) [
  | inl low ↦ IsPushed.Before (at_place xs k y x low (sym (get_or_append_left xs (x ∷ []) x k low) ∙ value))
  | inr past ↦
      let end : k ≡ length xs = omega (arith, past, slice_get_within (xs ++ x ∷ []) k y is, length_push xs x) in
      IsPushed.Last (sym value ∙ get_or_push xs x x k (sym end))
]
  where
    value : get_or (xs ++ x ∷ []) k x ≡ y
    value = get_or_from_slice_get (xs ++ x ∷ []) k y x is

-- ## The next piece

pub record IsNext (book : Book) (piece : Piece) (place : ℕ) : Type 0 where
  pub first : first_of book ≡ Some place
  pub there : slice_get book.pieces place ≡ Some piece
  pub low : place < length book.standings
  pub free : get_or book.standings place Unclaimed ≡ Unclaimed

pub next_at : (book : Book) (piece : Piece) → next_of book ≡ Some piece → (place : ℕ) × IsNext book piece place
next_at book piece is = pick (first_of book) refl is
  where
    unclaimed : (x : Standing) → is_unclaimed x ≡ true → x ≡ Unclaimed
    unclaimed Unclaimed e = refl
    unclaimed (Out n) e = absurd (cc e)
    unclaimed Done e = absurd (cc e)

    pick : (o : Option ℕ) → first_of book ≡ o → option_and_then (slice_get book.pieces) o ≡ Some piece → (place : ℕ) × IsNext book piece place
    pick None e there = absurd (cc there)
    pick (Some place) e there =
        let found = position-Some is_unclaimed book.standings place Unclaimed e in
        (place, record { first = e; there = there; low = found.0; free = unclaimed (get_or book.standings place Unclaimed) found.1 })

pub taken_is : (book : Book) (piece : Piece) (place : ℕ) → IsNext book piece place → may_number book ≡ true → after_taking book ≡ record { pieces = book.pieces; standings = slice_set book.standings place (Out (book.given + 1)); given = book.given + 1 }
taken_is book piece place next may =
    ap (after_taking_at book) next.first
    ∙ ap (λ (b : Bool). let x : Book = if b then record { pieces = book.pieces; standings = slice_set book.standings place (Out (book.given + 1)); given = book.given + 1 } else book in x) may

-- ## One more claim, and one less

pub outs_none : (set : CommitSet) (book : Book) → AreOut set book []
outs_none set book = record {
  each = λ k claim at. absurd (none k claim at);
  ascend = λ i j d low within. absurd (omega (arith, within));
}
  where
    none : (k : ℕ) (claim : Claim) → slice_get {X = Claim} [] k ≡ Some claim → ⊥
    none k claim at = cc at

module _ (set : CommitSet) (book : Book) (outs : List Claim) (were : AreOut set book outs) where
  pub outs_taken : (piece : Piece) (place : ℕ) (claim : Claim) → IsNext book piece place → may_number book ≡ true → claim.number ≡ book.given + 1 → IsClaimFor set piece claim
      → ((p n : ℕ) → slice_get book.standings p ≡ Some (Out n) → n ≤ book.given) → AreOut set (after_taking book) (outs ++ claim ∷ [])
  outs_taken piece place claim next may number is given = subst (λ (b : Book). AreOut set b (outs ++ claim ∷ [])) (sym (taken_is book piece place next may)) (record {
    each = λ k c at. by k c (pushed_at outs claim k c at);
    ascend = all_pairs_push (λ (left right : Claim). left.number < right.number) outs claim were.ascend (λ k d low. below k d low);
  })
    where
      after : Book
      after = record { pieces = book.pieces; standings = slice_set book.standings place (Out (book.given + 1)); given = book.given + 1 }

      new_is : IsOutFor set after claim
      new_is = record { place = place; piece = piece; out = set_there book.standings place (Out (book.given + 1)) next.low ∙ ap (λ (n : ℕ). Some (Out n)) (sym number); there = next.there; is = is }

      old_is : (c : Claim) → IsOutFor set book c → IsOutFor set after c
      old_is c was = record { place = was.place; piece = was.piece; out = set_other book.standings place was.place (Out (book.given + 1)) (Out c.number) apart was.out; there = was.there; is = was.is }
        where
          apart : was.place ≢ place
          apart e = absurd (let now : Out c.number ≡ Unclaimed = sym (get_or_from_slice_get book.standings was.place (Out c.number) Unclaimed was.out) ∙ ap (λ (p : ℕ). get_or book.standings p Unclaimed) e ∙ next.free in cc now)

      by : (k : ℕ) (c : Claim) → IsPushed outs claim k c → IsOutFor set after c
      by k c (IsPushed.Before at) = old_is c (were.each k c at)
      by k c (IsPushed.Last same) = subst (λ (x : Claim). IsOutFor set after x) (sym same) new_is

      below : (k : ℕ) (d : Claim) → k < length outs → (get_or outs k d).number < claim.number
      below k d low =
          let was = were.each k (get_or outs k d) (slice_get-get_or outs k d low) in
          omega (arith, number, given was.place (get_or outs k d).number was.out)
