-- What is kept beside a book, after each of its steps.
use Rattle.std.proofs.Common.{◌≡◌, ◌≢◌, ℕ, zero, suc, ◌+◌, ◌-◌, ◌<◌, ◌≤◌, ◌==◌, ◌^◌, ◌&&◌, if◌then◌else◌, min, Bool, true, false, cond, List, [], ◌∷◌, ◌++◌, length, replicate, slice_set, slice_index_or, slice_get, Some, None, refl, sym, ap, subst, ◌∙◌, arith, inl, inr}
use Rattle.std.specs.Prelude.{option_and_then}
use Rattle.std.specs.List.{remove, count_by, list_all, position, position_or_len}
use Rattle.std.proofs.lemmas.Bool.{cases_Bool, cases_lt, cases_eq, lt-ltb, le-ltb, eq-eqb, ne_eqb, and_parts}
use Rattle.std.proofs.lemmas.List.{length-set, length-replicate, length_push, get_or-set_same, get_or-set_other, get_or-replicate, get_or_past}
use Rattle.std.proofs.lemmas.List.Edits.{length-remove}
use Rattle.std.proofs.lemmas.List.Folds.{position_or_len-set}
use Rattle.std.proofs.lemmas.List.Sums.{sum_by-cons, sum_by-set, count_by-le-length, position_or_len_is, fails_before_first, passes_at_first}
use Rattle.commit_core.specs.declared.piece.Piece.{Piece}
use Rattle.commit_core.specs.declared.outs.OutAt.{OutAt}
use Rattle.commit_core.specs.declared.standing.Standing.{Standing}
use Rattle.commit_core.specs.declared.standing.Standing.TheVariants.{Unclaimed, Out, Done}
use Rattle.commit_core.specs.declared.taken.Taken.TheVariants.{Handed, NoNumber}
use Rattle.commit_core.specs.LedgerBook.{Book, is_unclaimed, is_out, is_done, none_claimed, taken_as, taken_of}
use Rattle.commit_core.specs.LedgerIndex.{standing_at, HasOut, IsKept}
use Rattle.commit_core.proofs.Index.{unclaimed_out, done_out, out_within, stands, index_taken, index_ended}

-- ---- lists
pub got : {X : Type 0} (xs : List X) (i : ℕ) (x d : X) → slice_get xs i ≡ Some x → slice_index_or xs i d ≡ x
got [] i x d e = cc
got (y ∷ ys) zero x d e = cc
got (y ∷ ys) (suc i) x d e = got ys i x d e

get_past : {X : Type 0} (xs : List X) (i : ℕ) → length xs ≤ i → slice_get xs i ≡ None
get_past [] i h = refl
get_past (x ∷ xs) zero h = absurd (omega arith)
get_past (x ∷ xs) (suc i) h = get_past xs i (omega arith)

-- the item at the first place that passes
pub next_is : {X Y : Type 0} (p : X → Bool) (xs : List X) (ys : List Y) (first : ℕ) → length xs ≡ length ys → first ≡ position_or_len p xs
    → slice_get ys first ≡ option_and_then (slice_get ys) (position p xs)
next_is p xs ys first same at =
    elim (cases_lt (position_or_len p xs) (length xs)) [
      | inl low ↦
          ap (slice_get ys) at
          ∙ sym (ap (λ b. option_and_then (slice_get ys) (cond b (Some (position_or_len p xs)) None)) (lt-ltb (position_or_len p xs) (length xs) low))
      | inr past ↦
          get_past ys first (omega (arith, at, same, past))
          ∙ sym (ap (λ b. option_and_then (slice_get ys) (cond b (Some (position_or_len p xs)) None)) (le-ltb (position_or_len p xs) (length xs) past))
    ]

pub get_low : {X : Type 0} (xs : List X) (i : ℕ) (x : X) → slice_get xs i ≡ Some x → i < length xs
get_low [] i x e = cc
get_low (y ∷ ys) zero x e = omega arith
get_low (y ∷ ys) (suc i) x e = omega (arith, get_low ys i x e)

pub taken_is : (book : Book) (first : ℕ) (piece : Piece) → length book.standings ≡ length book.pieces → first ≡ position_or_len is_unclaimed book.standings
    → slice_get book.pieces first ≡ Some piece → book.given < 2 ^ 64 - 1 → Handed (book.given + 1) piece ≡ taken_of book
taken_is book first piece same at here left =
    sym
    (ap (taken_as book) (sym (next_is is_unclaimed book.standings book.pieces first same at) ∙ here)
    ∙ ap (λ b. if b then Handed (book.given + 1) piece else NoNumber) (lt-ltb book.given (2 ^ 64 - 1) left))

-- ---- counts
abbrev one_if : Bool → ℕ
one_if b = cond b 1 0

count_more : {X : Type 0} (p : X → Bool) (x : X) (xs : List X) → count_by p (x ∷ xs) ≡ one_if (p x) + count_by p xs
count_more p x xs = sum_by-cons (λ y. one_if (p y)) x xs

all_counted : {X : Type 0} (p : X → Bool) (xs : List X) → list_all p xs ≡ true → count_by p xs ≡ length xs
all_counted p [] e = refl
all_counted p (x ∷ xs) e =
    let two = and_parts (p x) (list_all p xs) e in
    let one : one_if (p x) ≡ 1 = ap one_if two.0 in
    omega (arith, one, count_more p x xs, all_counted p xs two.1)

not_counted : {X : Type 0} (p : X → Bool) (xs : List X) → list_all p xs ≡ false → count_by p xs < length xs
not_counted p [] e = cc
not_counted p (x ∷ xs) e =
    elim (cases_Bool (p x)) [
      | inl yes_x ↦
          let one : one_if (p x) ≡ 1 = ap one_if yes_x in
          let others : list_all p xs ≡ false = sym (ap (λ b. b && list_all p xs) yes_x) ∙ e in
          omega (arith, one, count_more p x xs, not_counted p xs others)
      | inr no_x ↦
          let none : one_if (p x) ≡ 0 = ap one_if no_x in
          omega (arith, none, count_more p x xs, count_by-le-length p xs)
    ]

pub all_is : {X : Type 0} (p : X → Bool) (xs : List X) (counted count : ℕ) → counted ≡ count_by p xs → count ≡ length xs → (counted == count) ≡ list_all p xs
all_is p xs counted count e f =
    elim (cases_Bool (list_all p xs)) [
      | inl all ↦ eq-eqb counted count (e ∙ all_counted p xs all ∙ sym f) ∙ sym all
      | inr some ↦ ne_eqb counted count (λ same. omega (arith, not_counted p xs some, e, f, same)) ∙ sym some
    ]

-- one that comes from one standing to another
count_step : (p : Standing → Bool) (xs : List Standing) (i : ℕ) (old new : Standing) → i < length xs → standing_at xs i ≡ old
    → count_by p (slice_set xs i new) + one_if (p old) ≡ count_by p xs + one_if (p new)
count_step p xs i old new h is =
    subst (λ s. count_by p (slice_set xs i new) + one_if (p s) ≡ count_by p xs + one_if (p new)) is (sum_by-set (λ s. one_if (p s)) xs i new Unclaimed h)

none_counted : (p : Standing → Bool) (n : ℕ) → p Unclaimed ≡ false → count_by p (replicate n Unclaimed) ≡ 0
none_counted p zero e = refl
none_counted p (suc n) e = let none : one_if (p Unclaimed) ≡ 0 = ap one_if e in omega (arith, none, count_more p Unclaimed (replicate n Unclaimed), none_counted p n e)

-- ---- steps
unclaimed_is : (s : Standing) → is_unclaimed s ≡ true → s ≡ Unclaimed
unclaimed_is Unclaimed e = refl
unclaimed_is (Out number) e = cc
unclaimed_is Done e = cc

never_out : (n place number : ℕ) → standing_at (replicate n Unclaimed) place ≡ Out number → ⊥
never_out n place number e =
    elim (cases_lt place n) [
      | inl low ↦ unclaimed_out number (sym (get_or-replicate n place Unclaimed Unclaimed low) ∙ e)
      | inr past ↦ unclaimed_out number (sym (get_or_past (replicate n Unclaimed) place Unclaimed (omega (arith, length-replicate n Unclaimed, past))) ∙ e)
    ]

pub kept_fresh : (pieces : List Piece) (given room : ℕ) → length pieces ≤ room → IsKept pieces (none_claimed pieces) [] given 0 0 room
kept_fresh pieces given room fits =
    let n : ℕ = length pieces in
    let size = length-replicate n Unclaimed in
    record {
      count = size;
      at_first = sym (position_or_len_is is_unclaimed (replicate n Unclaimed) 0 Unclaimed (omega arith) (λ k h. absurd (omega arith))
          (λ h. ap is_unclaimed (get_or-replicate n 0 Unclaimed Unclaimed (omega (arith, h, size)))));
      done_counted = sym (none_counted is_done n refl);
      outs_counted = sym (none_counted is_out n refl);
      fits = omega (arith, size, fits);
      index = record {
        ascend = λ a b d h l. absurd (omega arith);
        there = λ k h. absurd (omega arith);
        each = λ place number e. absurd (never_out n place number e);
        some = λ k h. absurd (omega arith);
        few = λ k h. absurd (omega arith);
      };
    }

module _ (pieces : List Piece) (standings : List Standing) (outs : List OutAt) (given first done room : ℕ) (kept : IsKept pieces standings outs given first done room) where
  -- ---- the next piece goes out
  module _ (low : first < length standings) where
    pub first_free : standing_at standings first ≡ Unclaimed
    first_free =
        ap (standing_at standings) kept.at_first
        ∙ unclaimed_is (standing_at standings (position_or_len is_unclaimed standings)) (passes_at_first is_unclaimed standings Unclaimed (omega (arith, low, kept.at_first)))

    pub has_room : length outs < room
    has_room =
        let step : count_by is_out (slice_set standings first (Out 0)) + 0 ≡ count_by is_out standings + 1 = count_step is_out standings first Unclaimed (Out 0) low first_free in
        omega (arith, step, kept.outs_counted, kept.fits, count_by-le-length is_out (slice_set standings first (Out 0)), length-set standings first (Out 0))

    pub before_next : (number k : ℕ) → k < first + 1 → is_unclaimed (slice_index_or (slice_set standings first (Out number)) k Unclaimed) ≡ false
    before_next number k h =
        elim (cases_eq k first) [
          | inl same ↦
              ap (λ t. is_unclaimed (standing_at (slice_set standings first (Out number)) t)) same ∙ ap is_unclaimed (get_or-set_same standings first (Out number) Unclaimed low)
          | inr other ↦
              ap is_unclaimed (get_or-set_other standings first k (Out number) Unclaimed other)
              ∙ fails_before_first is_unclaimed standings k Unclaimed (omega (arith, h, kept.at_first, (λ (e : k ≡ first). other e)))
        ]

    pub kept_taken : (next : ℕ) → next ≡ position_or_len is_unclaimed (slice_set standings first (Out (given + 1)))
        → IsKept pieces (slice_set standings first (Out (given + 1))) (outs ++ record { number = given + 1; place = first } ∷ []) (given + 1) next done room
    kept_taken next at =
        let size = length-set standings first (Out (given + 1)) in
        let dones : count_by is_done (slice_set standings first (Out (given + 1))) + 0 ≡ count_by is_done standings + 0 =
        count_step is_done standings first Unclaimed (Out (given + 1)) low first_free in
        let more : count_by is_out (slice_set standings first (Out (given + 1))) + 0 ≡ count_by is_out standings + 1 =
        count_step is_out standings first Unclaimed (Out (given + 1)) low first_free in
        record {
          count = size ∙ kept.count;
          at_first = at;
          done_counted = omega (arith, dones, kept.done_counted);
          outs_counted = length_more ∙ omega (arith, more, kept.outs_counted);
          fits = omega (arith, size, kept.fits);
          index = index_taken standings given outs kept.index first low first_free;
        }
      where
        length_more : length (outs ++ record { number = given + 1; place = first } ∷ []) ≡ length outs + 1
        length_more = length_push outs (record { number = given + 1; place = first })

  -- ---- a number comes back
  module _ (number place : ℕ) (had : HasOut outs number place) where
    own : standing_at standings place ≡ Out number
    own = stands standings given outs kept.index number place had

    pub place_low : place < length standings
    place_low = out_within standings place number own

    counted : (to : Standing) → is_out to ≡ false → length (remove outs had.at) ≡ count_by is_out (slice_set standings place to)
    counted to e =
        let none : one_if (is_out to) ≡ 0 = ap one_if e in
        let step : count_by is_out (slice_set standings place to) + 1 ≡ count_by is_out standings + one_if (is_out to) = count_step is_out standings place (Out number) to place_low own in
        omega (arith, none, step, kept.outs_counted, length-remove outs had.at had.within)

    not_first : place ≢ first
    not_first e =
        let free = first_free (subst (λ t. t < length standings) e place_low) in
        unclaimed_out number (sym free ∙ ap (standing_at standings) (sym e) ∙ own)

    pub kept_back : (next : ℕ) → next ≡ min first place → IsKept pieces (slice_set standings place Unclaimed) (remove outs had.at) given next done room
    kept_back next least =
        let size = length-set standings place Unclaimed in
        let dones : count_by is_done (slice_set standings place Unclaimed) + 0 ≡ count_by is_done standings + 0 =
        count_step is_done standings place (Out number) Unclaimed place_low own in
        record {
          count = size ∙ kept.count;
          at_first = sym (position_or_len_is is_unclaimed (slice_set standings place Unclaimed) next Unclaimed (omega (arith, least, size, place_low)) before there);
          done_counted = omega (arith, dones, kept.done_counted);
          outs_counted = counted Unclaimed refl;
          fits = omega (arith, size, kept.fits);
          index = index_ended standings given outs kept.index number place had Unclaimed unclaimed_out;
        }
      where
        before : (k : ℕ) → k < next → is_unclaimed (slice_index_or (slice_set standings place Unclaimed) k Unclaimed) ≡ false
        before k h =
            ap is_unclaimed (get_or-set_other standings place k Unclaimed Unclaimed (λ e. omega (arith, h, least, e)))
            ∙ fails_before_first is_unclaimed standings k Unclaimed (omega (arith, h, least, kept.at_first))

        there : next < length (slice_set standings place Unclaimed) → is_unclaimed (slice_index_or (slice_set standings place Unclaimed) next Unclaimed) ≡ true
        there h =
            elim (cases_lt first place) [
              | inl low ↦
                  let is : next ≡ first = omega (arith, low, least) in
                  ap (λ t. is_unclaimed (standing_at (slice_set standings place Unclaimed) t)) is
                  ∙ ap is_unclaimed (get_or-set_other standings place first Unclaimed Unclaimed (λ e. omega (arith, low, e)) ∙ first_free (omega (arith, low, place_low)))
              | inr high ↦
                  let is : next ≡ place = omega (arith, high, least) in
                  ap (λ t. is_unclaimed (standing_at (slice_set standings place Unclaimed) t)) is
                  ∙ ap is_unclaimed (get_or-set_same standings place Unclaimed Unclaimed place_low)
            ]

    done_more : count_by is_done (slice_set standings place Done) ≡ count_by is_done standings + 1
    done_more =
        let step : count_by is_done (slice_set standings place Done) + 0 ≡ count_by is_done standings + 1 = count_step is_done standings place (Out number) Done place_low own in
        omega (arith, step)

    pub done_low : done < length standings
    done_low = omega (arith, done_more, kept.done_counted, count_by-le-length is_done (slice_set standings place Done), length-set standings place Done)

    pub kept_closed : IsKept pieces (slice_set standings place Done) (remove outs had.at) given first (done + 1) room
    kept_closed =
        let size = length-set standings place Done in
        record {
          count = size ∙ kept.count;
          at_first = kept.at_first ∙ sym (position_or_len-set is_unclaimed standings place Done Unclaimed (sym (ap is_unclaimed own)));
          done_counted = omega (arith, done_more, kept.done_counted);
          outs_counted = counted Done refl;
          fits = omega (arith, size, kept.fits);
          index = index_ended standings given outs kept.index number place had Done done_out;
        }
