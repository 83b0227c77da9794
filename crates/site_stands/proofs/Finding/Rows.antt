-- The recoverer's list is one that a look may find, and what it leaves is what the devices hold.
use Rattle.std.proofs.Common.{◌≡◌, ℕ, zero, suc, Bool, true, false, List, [], ◌∷◌, Some, None, refl, sym, ◌∙◌, ap, subst, arith}
use Rattle.std.specs.Prelude.{IsTrue, slice_get, if◌then◌else◌}
use Rattle.std.specs.Option.{option_map}
use Rattle.scr_base.specs.declared.shape.DataId.{DataId}
use Rattle.scr_base.specs.Same.{same_id}
use Rattle.ckpt_model.specs.declared.event.FoundRow.{FoundRow}
use Rattle.ckpt_model.specs.Machine.{Kept}
use Rattle.ckpt_model.specs.Loss.{may_find, may_leave, kept_found, looked}
use Rattle.ckpt_model.proofs.Plays.{same_id_is}
use Rattle.ckpt_model.proofs.SameLemmas.{id-same}
use Rattle.site_stands.specs.Look.{RowsRise}
use Rattle.site_stands.proofs.Rise.{KeptRise}

-- what a look leaves: each of the listed ones as found, and no other
pub record LooksAs (rows : List FoundRow) (ks out : List Kept) : Type 0 where
  pub from : (x : Kept) (j : ℕ) → slice_get out j ≡ Some x → (row : FoundRow) × (l : ℕ) × (k : Kept) × (i : ℕ) × (slice_get rows l ≡ Some row) × (slice_get ks i ≡ Some k) × (row.which ≡ k.dataset.which) × (x ≡ kept_found row.lost k)
  pub onto : (row : FoundRow) (l : ℕ) (k : Kept) (i : ℕ) → slice_get rows l ≡ Some row → slice_get ks i ≡ Some k → row.which ≡ k.dataset.which → (j : ℕ) × (slice_get out j ≡ Some (kept_found row.lost k))

of_same : (a b : DataId) → a ≡ b → same_id a b ≡ true
of_same a b same = subst (λ (x : DataId). same_id a x ≡ true) same (id-same a)

id_of : {a b : DataId} → a ≡ b → a.id ≡ b.id
id_of same = ap (λ (d : DataId). d.id) same

-- the rows are of kept ones; each kept one may be found as its row says, or may be left where it has none
pub record MayLook (rows : List FoundRow) (ks : List Kept) : Type 0 where
  pub rows_rise : RowsRise rows
  pub kept_rise : KeptRise ks
  pub of_kept : (row : FoundRow) (l : ℕ) → slice_get rows l ≡ Some row → (k : Kept) × (i : ℕ) × (slice_get ks i ≡ Some k) × (row.which ≡ k.dataset.which)
  pub find : (row : FoundRow) (l : ℕ) (k : Kept) (i : ℕ) → slice_get rows l ≡ Some row → slice_get ks i ≡ Some k → row.which ≡ k.dataset.which → IsTrue (may_find row.lost k)
  pub leave : (k : Kept) (i : ℕ) → slice_get ks i ≡ Some k → ((row : FoundRow) (l : ℕ) → slice_get rows l ≡ Some row → row.which ≡ k.dataset.which → ⊥) → IsTrue (may_leave k)

-- the rest of the rows is of the rest of the kept ones
rest_of : (row : FoundRow) (rows : List FoundRow) (k : Kept) (ks : List Kept) → row.which ≡ k.dataset.which → MayLook (row ∷ rows) (k ∷ ks) → MayLook rows ks
rest_of row rows k ks same may = record {
  rows_rise = may.rows_rise.1;
  kept_rise = may.kept_rise.1;
  of_kept = λ r l at. behind r l at (may.of_kept r (suc l) at);
  find = λ r l o i at there is. may.find r (suc l) o (suc i) at there is;
  leave = λ o i there none. may.leave o (suc i) there (λ r l at is. first r l at o i is there none);
}
  where
    behind : (r : FoundRow) (l : ℕ) → slice_get rows l ≡ Some r → (o : Kept) × (i : ℕ) × (slice_get (k ∷ ks) i ≡ Some o) × (r.which ≡ o.dataset.which) → (o : Kept) × (i : ℕ) × (slice_get ks i ≡ Some o) × (r.which ≡ o.dataset.which)
    behind r l at (o, zero, there, is) = absurd (let it : k ≡ o = cc there in let lt = may.rows_rise.0 l r at in omega (arith, lt, id_of same, id_of is, ap (λ (x : Kept). x.dataset.which.id) it))
    behind r l at (o, suc i, there, is) = (o, i, there, is)

    first : (r : FoundRow) (l : ℕ) → slice_get (row ∷ rows) l ≡ Some r → (o : Kept) (i : ℕ) → r.which ≡ o.dataset.which → slice_get ks i ≡ Some o → ((x : FoundRow) (n : ℕ) → slice_get rows n ≡ Some x → x.which ≡ o.dataset.which → ⊥) → ⊥
    first r zero at o i is there none = let it : row ≡ r = cc at in let lt = may.kept_rise.0 i o there in omega (arith, lt, id_of same, id_of is, ap (λ (x : FoundRow). x.which.id) it)
    first r (suc l) at o i is there none = none r l at is

-- a kept one that has no row is passed
passed : (rows : List FoundRow) (k : Kept) (ks : List Kept) → ((row : FoundRow) (l : ℕ) → slice_get rows l ≡ Some row → row.which ≡ k.dataset.which → ⊥) → MayLook rows (k ∷ ks) → MayLook rows ks
passed rows k ks none may = record {
  rows_rise = may.rows_rise;
  kept_rise = may.kept_rise.1;
  of_kept = λ r l at. behind r l at (may.of_kept r l at);
  find = λ r l o i at there is. may.find r l o (suc i) at there is;
  leave = λ o i there no_row. may.leave o (suc i) there no_row;
}
  where
    behind : (r : FoundRow) (l : ℕ) → slice_get rows l ≡ Some r → (o : Kept) × (i : ℕ) × (slice_get (k ∷ ks) i ≡ Some o) × (r.which ≡ o.dataset.which) → (o : Kept) × (i : ℕ) × (slice_get ks i ≡ Some o) × (r.which ≡ o.dataset.which)
    behind r l at (o, zero, there, is) = absurd (let it : k ≡ o = cc there in none r l at (is ∙ ap (λ (x : Kept). x.dataset.which) (sym it)))
    behind r l at (o, suc i, there, is) = (o, i, there, is)

-- where the first row is another's, the first kept one has no row
no_row : (row : FoundRow) (rows : List FoundRow) (k : Kept) (ks : List Kept) → (row.which ≡ k.dataset.which → ⊥) → MayLook (row ∷ rows) (k ∷ ks) → (r : FoundRow) (l : ℕ) → slice_get (row ∷ rows) l ≡ Some r → r.which ≡ k.dataset.which → ⊥
no_row row rows k ks other may r zero at is = let it : row ≡ r = cc at in other (ap (λ (x : FoundRow). x.which) it ∙ is)
no_row row rows k ks other may r (suc l) at is = first (may.of_kept row 0 refl)
  where
    first : (o : Kept) × (i : ℕ) × (slice_get (k ∷ ks) i ≡ Some o) × (row.which ≡ o.dataset.which) → ⊥
    first (o, zero, there, same) = let it : k ≡ o = cc there in other (same ∙ ap (λ (x : Kept). x.dataset.which) (sym it))
    first (o, suc i, there, same) = let below = may.kept_rise.0 i o there in let lt = may.rows_rise.0 l r at in absurd (omega (arith, below, lt, id_of same, id_of is))

looks_taken : (row : FoundRow) (rows : List FoundRow) (k : Kept) (ks out : List Kept) → row.which ≡ k.dataset.which → MayLook (row ∷ rows) (k ∷ ks) → LooksAs rows ks out → LooksAs (row ∷ rows) (k ∷ ks) (kept_found row.lost k ∷ out)
looks_taken row rows k ks out same may looks = record {
  from = from;
  onto = onto;
}
  where
    from : (x : Kept) (j : ℕ) → slice_get (kept_found row.lost k ∷ out) j ≡ Some x → (r : FoundRow) × (l : ℕ) × (o : Kept) × (i : ℕ) × (slice_get (row ∷ rows) l ≡ Some r) × (slice_get (k ∷ ks) i ≡ Some o) × (r.which ≡ o.dataset.which) × (x ≡ kept_found r.lost o)
    from x zero at = (row, 0, k, 0, refl, refl, same, (let is : kept_found row.lost k ≡ x = cc at in sym is))
    from x (suc j) at = let of = looks.from x j at in (of.0, suc of.1, of.2, suc of.3, of.4, of.5, of.6, of.7)

    onto : (r : FoundRow) (l : ℕ) (o : Kept) (i : ℕ) → slice_get (row ∷ rows) l ≡ Some r → slice_get (k ∷ ks) i ≡ Some o → r.which ≡ o.dataset.which → (j : ℕ) × (slice_get (kept_found row.lost k ∷ out) j ≡ Some (kept_found r.lost o))
    onto r zero o zero at there is = let it : row ≡ r = cc at in let of : k ≡ o = cc there in (0, ap Some (ap (λ (x : FoundRow). kept_found x.lost k) it ∙ ap (kept_found r.lost) of))
    onto r zero o (suc i) at there is = absurd (let it : row ≡ r = cc at in let lt = may.kept_rise.0 i o there in omega (arith, lt, id_of same, id_of is, ap (λ (x : FoundRow). x.which.id) it))
    onto r (suc l) o zero at there is = absurd (let it : k ≡ o = cc there in let lt = may.rows_rise.0 l r at in omega (arith, lt, id_of same, id_of is, ap (λ (x : Kept). x.dataset.which.id) it))
    onto r (suc l) o (suc i) at there is = let j = looks.onto r l o i at there is in (suc j.0, j.1)

looks_passed : (rows : List FoundRow) (k : Kept) (ks out : List Kept) → ((row : FoundRow) (l : ℕ) → slice_get rows l ≡ Some row → row.which ≡ k.dataset.which → ⊥) → LooksAs rows ks out → LooksAs rows (k ∷ ks) out
looks_passed rows k ks out none looks = record {
  from = λ x j at. let of = looks.from x j at in (of.0, of.1, of.2, suc of.3, of.4, of.5, of.6, of.7);
  onto = onto;
}
  where
    onto : (r : FoundRow) (l : ℕ) (o : Kept) (i : ℕ) → slice_get rows l ≡ Some r → slice_get (k ∷ ks) i ≡ Some o → r.which ≡ o.dataset.which → (j : ℕ) × (slice_get out j ≡ Some (kept_found r.lost o))
    onto r l o zero at there is = absurd (let it : k ≡ o = cc there in none r l at (is ∙ ap (λ (x : Kept). x.dataset.which) (sym it)))
    onto r l o (suc i) at there is = looks.onto r l o i at there is

-- A look may find the rows, and leaves each listed one as found.
pub may_look : (rows : List FoundRow) (ks : List Kept) → MayLook rows ks → (out : List Kept) × (looked rows ks ≡ Some out) × LooksAs rows ks out
may_look [] [] may = ([], refl, record { from = λ x j at. absurd (cc at); onto = λ r l o i at there is. absurd (cc at) })
may_look (row ∷ rows) [] may = absurd (let of = may.of_kept row 0 refl in let at = of.2 in cc at)
may_look [] (k ∷ ks) may =
    let none : ((row : FoundRow) (l : ℕ) → slice_get [] l ≡ Some row → row.which ≡ k.dataset.which → ⊥) = λ row l at is. cc at in
    let rest = may_look [] ks (passed [] k ks none may) in
    (rest.0, (rw (may.leave k 0 refl none) rest.1), looks_passed [] k ks rest.0 none rest.2)
may_look (row ∷ rows) (k ∷ ks) may = decide (same_id row.which k.dataset.which) refl (λ same. may_look rows ks (rest_of row rows k ks same may)) (λ none. may_look (row ∷ rows) ks (passed (row ∷ rows) k ks none may))
  where
    decide : (b : Bool) → same_id row.which k.dataset.which ≡ b
        → (row.which ≡ k.dataset.which → (out : List Kept) × (looked rows ks ≡ Some out) × LooksAs rows ks out)
        → (((r : FoundRow) (l : ℕ) → slice_get (row ∷ rows) l ≡ Some r → r.which ≡ k.dataset.which → ⊥) → (out : List Kept) × (looked (row ∷ rows) ks ≡ Some out) × LooksAs (row ∷ rows) ks out)
        → (out : List Kept) × ((if b then (if may_find row.lost k then option_map (λ found. kept_found row.lost k ∷ found) (looked rows ks) else None) else (if may_leave k then looked (row ∷ rows) ks else None)) ≡ Some out) × LooksAs (row ∷ rows) (k ∷ ks) out
    decide true is taken pass =
        let same = same_id_is row.which k.dataset.which is in
        let rest = taken same in
        (kept_found row.lost k ∷ rest.0, (rw (may.find row 0 k 0 refl refl same) (rw rest.1 refl)), looks_taken row rows k ks rest.0 same may rest.2)
    decide false is taken pass =
        let none = no_row row rows k ks (λ same. absurd (let there = of_same row.which k.dataset.which same in cc (there, is))) may in
        let rest = pass none in
        (rest.0, (rw (may.leave k 0 refl none) rest.1), looks_passed (row ∷ rows) k ks rest.0 none rest.2)
