-- Kept datasets of a proper state rise, so none has the identity of another.
use Rattle.std.proofs.Common.{◌≡◌, ◌<◌, ℕ, zero, suc, List, [], ◌∷◌, map, Some, refl, ap, subst, arith}
use Rattle.std.specs.Prelude.{IsTrue, nat_lt, slice_get}
use Rattle.std.proofs.lemmas.Bool.Decides.{nat_tests}
use Rattle.scr_base.specs.declared.shape.DataId.{DataId}
use Rattle.ckpt_model.specs.Dataset.{Dataset}
use Rattle.ckpt_model.specs.Machine.{Machine, Setup, Kept}
use Rattle.ckpt_model.specs.Proper.{IsProper, ids_rise}
use Rattle.model_proper.proofs.Lists.{front, behind}

-- ids rise, each below all that come later
abbrev pub KeptRise : List Kept → Type 0
KeptRise [] = Unit {0}
KeptRise (k ∷ ks) = ((j : ℕ) (o : Kept) → slice_get ks j ≡ Some o → k.dataset.which.id < o.dataset.which.id) × KeptRise ks

abbrev of_kept : List Kept → List Dataset
of_kept ks = map (λ k. k.dataset) ks

less : (a b : ℕ) → IsTrue (nat_lt a b) → a < b
less a b is = grind (arith, nat_tests)

first_below : (k : Kept) (ks : List Kept) → IsTrue (ids_rise (k.dataset ∷ of_kept ks)) → (j : ℕ) (o : Kept) → slice_get ks j ≡ Some o → k.dataset.which.id < o.dataset.which.id
first_below k [] rise j o at = absurd (cc at)
first_below k (x ∷ ks) rise zero o at = let same : x ≡ o = cc at in subst (λ (y : Kept). k.dataset.which.id < y.dataset.which.id) same (less k.dataset.which.id x.dataset.which.id (front (nat_lt k.dataset.which.id x.dataset.which.id) (ids_rise (x.dataset ∷ of_kept ks)) rise))
first_below k (x ∷ ks) rise (suc j) o at =
    let lt = less k.dataset.which.id x.dataset.which.id (front (nat_lt k.dataset.which.id x.dataset.which.id) (ids_rise (x.dataset ∷ of_kept ks)) rise) in
    let rest = first_below x ks (behind (nat_lt k.dataset.which.id x.dataset.which.id) (ids_rise (x.dataset ∷ of_kept ks)) rise) j o at in
    omega (arith, lt, rest)

rest_rises : (k : Kept) (ks : List Kept) → IsTrue (ids_rise (k.dataset ∷ of_kept ks)) → IsTrue (ids_rise (of_kept ks))
rest_rises k [] rise = refl
rest_rises k (x ∷ ks) rise = behind (nat_lt k.dataset.which.id x.dataset.which.id) (ids_rise (x.dataset ∷ of_kept ks)) rise

pub rise_of : (ks : List Kept) → IsTrue (ids_rise (of_kept ks)) → KeptRise ks
rise_of [] rise = tt
rise_of (k ∷ ks) rise = (first_below k ks rise, rise_of ks (rest_rises k ks rise))

pub proper_rises : (s : Setup) (m : Machine) → IsProper s m → KeptRise m.kept
proper_rises s m proper = rise_of m.kept proper.kept_rise

alone_of : (ks : List Kept) → KeptRise ks → (k other : Kept) (i j : ℕ) → slice_get ks i ≡ Some k → slice_get ks j ≡ Some other → other.dataset.which ≡ k.dataset.which → other ≡ k
alone_of [] rise k other i j at there same = absurd (cc at)
alone_of (x ∷ ks) rise k other zero zero at there same = cc (at, there)
alone_of (x ∷ ks) rise k other zero (suc j) at there same = absurd (let it : x ≡ k = cc at in let lt = rise.0 j other there in omega (arith, lt, ap (λ (d : DataId). d.id) same, ap (λ (y : Kept). y.dataset.which.id) it))
alone_of (x ∷ ks) rise k other (suc i) zero at there same = absurd (let it : x ≡ other = cc there in let lt = rise.0 i k at in omega (arith, lt, ap (λ (d : DataId). d.id) same, ap (λ (y : Kept). y.dataset.which.id) it))
alone_of (x ∷ ks) rise k other (suc i) (suc j) at there same = alone_of ks rise.1 k other i j at there same

pub proper_alone : (s : Setup) (m : Machine) → IsProper s m → (k other : Kept) (i j : ℕ) → slice_get m.kept i ≡ Some k → slice_get m.kept j ≡ Some other → other.dataset.which ≡ k.dataset.which → other ≡ k
proper_alone s m proper = alone_of m.kept (proper_rises s m proper)
