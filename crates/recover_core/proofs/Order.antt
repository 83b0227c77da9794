-- Datasets in order, and one more at its place.
use Rattle.std.proofs.Common.{◌≡◌, ◌⊎◌, inl, inr, ◌<◌, ◌≤◌, ◌+◌, ℕ, zero, suc, List, [], ◌∷◌, Some, length, get_or, refl, sym, ◌∙◌, ap, subst, arith, slice_get}
use Rattle.std.specs.Prelude.{insert, slice_set}
use Rattle.std.proofs.lemmas.Option.{slice_get_within, slice_get-get_or}
use Rattle.scr_base.specs.declared.shape.DataId.{DataId}
use Rattle.site_stands.proofs.Lists.{data_same}
use Rattle.recover_core.specs.Seen.{IsEarlier, AreRising, IsPlaceOf}
use Rattle.recover_core.specs.declared.seen.SeenSet.{SeenSet}

pub some_same : {A : Type 0} (x y : A) → Some x ≡ Some y → x ≡ y
some_same x y e = cc

-- ## A list with one element more, or another one

-- where an element of the longer list stands in the shorter one
Came : {A : Type 0} (xs : List A) (p : ℕ) (m : A) (i : ℕ) (x : A) → Type 0
Came xs p m i x = ((i < p) × (slice_get xs i ≡ Some x)) ⊎ (((i ≡ p) × (m ≡ x)) ⊎ ((j : ℕ) × (i ≡ suc j) × (p ≤ j) × (slice_get xs j ≡ Some x)))

later : {A : Type 0} (y : A) (ys : List A) (p : ℕ) (m : A) (i : ℕ) (x : A) → Came ys p m i x → Came (y ∷ ys) (suc p) m (suc i) x
unfolding Came
later y ys p m i x (inl below) = inl (omega (arith, below.0), below.1)
later y ys p m i x (inr (inl here)) = inr (inl (ap suc here.0, here.1))
later y ys p m i x (inr (inr above)) = inr (inr (suc above.0, ap suc above.1, omega (arith, above.2), above.3))

came : {A : Type 0} (xs : List A) (p : ℕ) (m : A) (i : ℕ) (x : A) → p ≤ length xs → slice_get (insert xs p m) i ≡ Some x → Came xs p m i x
unfolding Came
came xs zero m zero x le at = inr (inl (refl, some_same m x at))
came xs zero m (suc i) x le at = inr (inr (i, refl, omega arith, at))
came [] (suc p) m i x le at = absurd (omega (arith, le))
came (y ∷ ys) (suc p) m zero x le at = inl (omega arith, at)
came (y ∷ ys) (suc p) m (suc i) x le at = later y ys p m i x (came ys p m i x (omega (arith, le)) at)

pub kept : {A : Type 0} (xs : List A) (p : ℕ) (m : A) (j : ℕ) (x : A) → slice_get xs j ≡ Some x → (k : ℕ) × (slice_get (insert xs p m) k ≡ Some x)
kept xs zero m j x at = (suc j, at)
kept [] (suc p) m j x at = absurd (cc at)
kept (y ∷ ys) (suc p) m zero x at = (zero, at)
kept (y ∷ ys) (suc p) m (suc j) x at = let r = kept ys p m j x at in (suc r.0, r.1)

pub put_there : {A : Type 0} (xs : List A) (p : ℕ) (m : A) → p ≤ length xs → slice_get (insert xs p m) p ≡ Some m
put_there xs zero m le = refl
put_there [] (suc p) m le = absurd (omega (arith, le))
put_there (y ∷ ys) (suc p) m le = put_there ys p m (omega (arith, le))

pub from : {A : Type 0} (xs : List A) (p : ℕ) (m : A) (i : ℕ) (x : A) → p ≤ length xs → slice_get (insert xs p m) i ≡ Some x → (m ≡ x) ⊎ ((j : ℕ) × (slice_get xs j ≡ Some x))
unfolding Came
from {A = A} xs p m i x le at = pick (came xs p m i x le at) where
  pick : Came xs p m i x → (m ≡ x) ⊎ ((j : ℕ) × (slice_get xs j ≡ Some x))
  pick (inl below) = inr (i, below.1)
  pick (inr (inl here)) = inl here.1
  pick (inr (inr above)) = inr (above.0, above.3)

-- an element of a list of which one was set
pub from_set : {A : Type 0} (xs : List A) (p : ℕ) (m : A) (i : ℕ) (x : A) → slice_get (slice_set xs p m) i ≡ Some x → ((i ≡ p) × (m ≡ x)) ⊎ (((i ≡ p) → ⊥) × (slice_get xs i ≡ Some x))
from_set [] p m i x at = absurd (cc at)
from_set (y ∷ ys) zero m zero x at = inl (refl, some_same m x at)
from_set (y ∷ ys) zero m (suc i) x at = inr ((λ e. absurd (omega (arith, e))), at)
from_set (y ∷ ys) (suc p) m zero x at = inr ((λ e. absurd (omega (arith, e))), at)
from_set (y ∷ ys) (suc p) m (suc i) x at = step p i (from_set ys p m i x at) where
  step : (q j : ℕ) → ((j ≡ q) × (m ≡ x)) ⊎ (((j ≡ q) → ⊥) × (slice_get ys j ≡ Some x)) → ((suc j ≡ suc q) × (m ≡ x)) ⊎ (((suc j ≡ suc q) → ⊥) × (slice_get (y ∷ ys) (suc j) ≡ Some x))
  step q j (inl e) = inl (ap suc e.0, e.1)
  step q j (inr e) = inr ((λ same. e.0 (omega (arith, same))), e.1)

pub set_there : {A : Type 0} (xs : List A) (p : ℕ) (m x : A) → slice_get xs p ≡ Some x → slice_get (slice_set xs p m) p ≡ Some m
set_there [] p m x at = absurd (cc at)
set_there (y ∷ ys) zero m x at = refl
set_there (y ∷ ys) (suc p) m x at = set_there ys p m x at

pub set_other : {A : Type 0} (xs : List A) (p : ℕ) (m : A) (i : ℕ) (x : A) → ((i ≡ p) → ⊥) → slice_get xs i ≡ Some x → slice_get (slice_set xs p m) i ≡ Some x
set_other [] p m i x other at = absurd (cc at)
set_other (y ∷ ys) zero m zero x other at = absurd (other refl)
set_other (y ∷ ys) zero m (suc i) x other at = at
set_other (y ∷ ys) (suc p) m zero x other at = at
set_other (y ∷ ys) (suc p) m (suc i) x other at = set_other ys p m i x (λ e. other (ap suc e)) at

-- ## The order

pub trans : (a b c : DataId) → IsEarlier a b → IsEarlier b c → IsEarlier a c
trans a b c p q = grind (arith, p, q)

pub not_self : (a b : DataId) → a ≡ b → IsEarlier a b → ⊥
not_self a b same p =
    let i : a.id ≡ b.id = ap (λ (d : DataId). d.id) same in
    let r : a.run ≡ b.run = ap (λ (d : DataId). d.run) same in
    grind (arith, p, i, r)

after : (a b : DataId) → ¬ IsEarlier a b → ¬ (a ≡ b) → IsEarlier b a
after a b p q = pick (split a.id b.id) (split a.run b.run) where
  split : (x y : ℕ) → (x < y) ⊎ ((x ≡ y) ⊎ (y < x))
  split x y = grind arith

  pick : (a.id < b.id) ⊎ ((a.id ≡ b.id) ⊎ (b.id < a.id)) → (a.run < b.run) ⊎ ((a.run ≡ b.run) ⊎ (b.run < a.run)) → IsEarlier b a
  pick (inl lt) r = absurd (p (inl lt))
  pick (inr (inr gt)) r = inl gt
  pick (inr (inl i)) (inl lt) = absurd (p (inr (i, lt)))
  pick (inr (inl i)) (inr (inl r)) = absurd (q (data_same a b i r))
  pick (inr (inl i)) (inr (inr gt)) = inr (sym i, gt)

-- those from the place on are after the identity
pub behind : (xs : List SeenSet) (p : ℕ) (which : DataId) → AreRising xs → IsPlaceOf xs which p → ((x : SeenSet) → slice_get xs p ≡ Some x → ¬ (x.desc.which ≡ which)) → (i : ℕ) (x : SeenSet) → p ≤ i → slice_get xs i ≡ Some x → IsEarlier which x.desc.which
behind xs p which rising is other i x le at = pick (split p i le) where
  split : (u v : ℕ) → u ≤ v → (u ≡ v) ⊎ (u < v)
  split u v le = grind (arith, le)

  pick : (p ≡ i) ⊎ (p < i) → IsEarlier which x.desc.which
  pick (inl same) = let here = ap (slice_get xs) same ∙ at in after x.desc.which which (is.stop x here) (other x here)
  pick (inr lt) =
      let first = slice_get-get_or xs p x (omega (arith, lt, slice_get_within xs i x at)) in
      let y = get_or xs p x in
      trans which y.desc.which x.desc.which (after y.desc.which which (is.stop y first) (other y first)) (rising p i y x lt first at)

-- with one more at its place they rise still
pub rising_put : (xs : List SeenSet) (p : ℕ) (m : SeenSet) → AreRising xs → IsPlaceOf xs m.desc.which p → ((x : SeenSet) → slice_get xs p ≡ Some x → ¬ (x.desc.which ≡ m.desc.which)) → AreRising (insert xs p m)
unfolding Came
rising_put xs p m rising is other = λ i j a b lt ia jb. pick i j a b lt (came xs p m i a is.within ia) (came xs p m j b is.within jb) where
  pick : (i j : ℕ) (a b : SeenSet) → i < j → Came xs p m i a → Came xs p m j b → IsEarlier a.desc.which b.desc.which
  pick i j a b lt (inl x) (inl y) = rising i j a b lt x.1 y.1
  pick i j a b lt (inl x) (inr (inl y)) = subst (λ (c : SeenSet). IsEarlier a.desc.which c.desc.which) y.1 (is.before i a x.0 x.1)
  pick i j a b lt (inl x) (inr (inr y)) = rising i y.0 a b (omega (arith, x.0, y.2)) x.1 y.3
  pick i j a b lt (inr (inl x)) (inl y) = absurd (omega (arith, lt, x.0, y.0))
  pick i j a b lt (inr (inl x)) (inr (inl y)) = absurd (omega (arith, lt, x.0, y.0))
  pick i j a b lt (inr (inl x)) (inr (inr y)) = subst (λ (c : SeenSet). IsEarlier c.desc.which b.desc.which) x.1 (behind xs p m.desc.which rising is other y.0 b y.2 y.3)
  pick i j a b lt (inr (inr x)) (inl y) = absurd (omega (arith, lt, x.1, x.2, y.0))
  pick i j a b lt (inr (inr x)) (inr (inl y)) = absurd (omega (arith, lt, x.1, x.2, y.0))
  pick i j a b lt (inr (inr x)) (inr (inr y)) = rising x.0 y.0 a b (omega (arith, lt, x.1, y.1)) x.3 y.3

-- none before or behind the place has the identity
pub none_there : (xs : List SeenSet) (p : ℕ) (which : DataId) → AreRising xs → IsPlaceOf xs which p → ((x : SeenSet) → slice_get xs p ≡ Some x → ¬ (x.desc.which ≡ which)) → (i : ℕ) (x : SeenSet) → slice_get xs i ≡ Some x → x.desc.which ≡ which → ⊥
none_there xs p which rising is other i x at same = pick (split i p) where
  split : (u v : ℕ) → (u < v) ⊎ (v ≤ u)
  split u v = grind arith

  pick : (i < p) ⊎ (p ≤ i) → ⊥
  pick (inl lt) = not_self x.desc.which which same (is.before i x lt at)
  pick (inr le) = not_self which x.desc.which (sym same) (behind xs p which rising is other i x le at)

-- two at different places have different identities
pub apart : (xs : List SeenSet) → AreRising xs → (i j : ℕ) (x y : SeenSet) → slice_get xs i ≡ Some x → slice_get xs j ≡ Some y → ((i ≡ j) → ⊥) → x.desc.which ≡ y.desc.which → ⊥
apart xs rising i j x y ix jy other same = pick (split i j) where
  split : (u v : ℕ) → (u < v) ⊎ ((u ≡ v) ⊎ (v < u))
  split u v = grind arith

  pick : (i < j) ⊎ ((i ≡ j) ⊎ (j < i)) → ⊥
  pick (inl lt) = not_self x.desc.which y.desc.which same (rising i j x y lt ix jy)
  pick (inr (inl e)) = other e
  pick (inr (inr gt)) = not_self y.desc.which x.desc.which (sym same) (rising j i y x gt jy ix)

-- ## Finding the place

-- those up to one that is before are before
pub up_to : (xs : List SeenSet) (at : ℕ) (which : DataId) (found : SeenSet) → AreRising xs → at < length xs → found ≡ get_or xs at found → IsEarlier found.desc.which which → (i : ℕ) (x : SeenSet) → i < at + 1 → slice_get xs i ≡ Some x → IsEarlier x.desc.which which
up_to xs at which found rising lt is less i x below there = pick (split i at below) where
  split : (u v : ℕ) → u < v + 1 → (u < v) ⊎ (u ≡ v)
  split u v lt = grind (arith, lt)

  here : slice_get xs at ≡ Some found
  here = slice_get-get_or xs at found lt ∙ ap Some (sym is)

  pick : (i < at) ⊎ (i ≡ at) → IsEarlier x.desc.which which
  pick (inl earlier) = trans x.desc.which found.desc.which which (rising i at x found earlier there here) less
  pick (inr same) = subst (λ (y : SeenSet). IsEarlier y.desc.which which) (some_same found x (sym here ∙ ap (slice_get xs) (sym same) ∙ there)) less

-- the one at this place isn't before
pub not_at : (xs : List SeenSet) (at : ℕ) (which : DataId) (found x : SeenSet) → at < length xs → found ≡ get_or xs at found → ¬ IsEarlier found.desc.which which → slice_get xs at ≡ Some x → ¬ IsEarlier x.desc.which which
not_at xs at which found x lt is not there = subst (λ (y : SeenSet). ¬ IsEarlier y.desc.which which) (some_same found x (ap Some is ∙ sym (slice_get-get_or xs at found lt) ∙ there)) not

-- past the end none stands
pub none_past : (xs : List SeenSet) (at : ℕ) (which : DataId) (x : SeenSet) → length xs ≤ at → slice_get xs at ≡ Some x → ¬ IsEarlier x.desc.which which
none_past xs at which x end there = absurd (omega (arith, end, slice_get_within xs at x there))
