-- Entries in order, and one more at its place.
use Rattle.std.proofs.Common.{◌≡◌, ◌⊎◌, inl, inr, ◌<◌, ◌≤◌, ◌+◌, ℕ, zero, suc, List, [], ◌∷◌, Some, length, get_or, refl, sym, ◌∙◌, ap, subst, arith, slice_get}
use Rattle.std.specs.Prelude.{insert}
use Rattle.std.proofs.lemmas.Option.{slice_get_within, slice_get-get_or, get_or_from_slice_get}
use Rattle.prefix_index.specs.Entries.{IsBefore}
use Rattle.prefix_index.specs.Listing.{AreAscending, IsPlaceFor, PutsEntry}
use Rattle.prefix_index.specs.declared.entry.Entry.{Entry}

some_same : {A : Type 0} (x y : A) → Some x ≡ Some y → x ≡ y
some_same x y e = cc

-- ## A list with one more element

-- where an element of the longer list stands in the shorter one
Came : (xs : List Entry) (p : ℕ) (m : Entry) (i : ℕ) (x : Entry) → Type 0
Came xs p m i x = ((i < p) × (slice_get xs i ≡ Some x)) ⊎ (((i ≡ p) × (m ≡ x)) ⊎ ((j : ℕ) × (i ≡ suc j) × (p ≤ j) × (slice_get xs j ≡ Some x)))

later : (y : Entry) (ys : List Entry) (p : ℕ) (m : Entry) (i : ℕ) (x : Entry) → Came ys p m i x → Came (y ∷ ys) (suc p) m (suc i) x
unfolding Came
later y ys p m i x (inl below) = inl (omega (arith, below.0), below.1)
later y ys p m i x (inr (inl here)) = inr (inl (ap suc here.0, here.1))
later y ys p m i x (inr (inr above)) = inr (inr (suc above.0, ap suc above.1, omega (arith, above.2), above.3))

came : (xs : List Entry) (p : ℕ) (m : Entry) (i : ℕ) (x : Entry) → p ≤ length xs → slice_get (insert xs p m) i ≡ Some x → Came xs p m i x
unfolding Came
came xs zero m zero x le at = inr (inl (refl, some_same m x at))
came xs zero m (suc i) x le at = inr (inr (i, refl, omega arith, at))
came [] (suc p) m i x le at = absurd (omega (arith, le))
came (y ∷ ys) (suc p) m zero x le at = inl (omega arith, at)
came (y ∷ ys) (suc p) m (suc i) x le at = later y ys p m i x (came ys p m i x (omega (arith, le)) at)

pub kept : (xs : List Entry) (p : ℕ) (m : Entry) (j : ℕ) (x : Entry) → slice_get xs j ≡ Some x → (k : ℕ) × (slice_get (insert xs p m) k ≡ Some x)
kept xs zero m j x at = (suc j, at)
kept [] (suc p) m j x at = absurd (cc at)
kept (y ∷ ys) (suc p) m zero x at = (zero, at)
kept (y ∷ ys) (suc p) m (suc j) x at = let r = kept ys p m j x at in (suc r.0, r.1)

pub put_there : (xs : List Entry) (p : ℕ) (m : Entry) → p ≤ length xs → slice_get (insert xs p m) p ≡ Some m
put_there xs zero m le = refl
put_there [] (suc p) m le = absurd (omega (arith, le))
put_there (y ∷ ys) (suc p) m le = put_there ys p m (omega (arith, le))

pub from : (xs : List Entry) (p : ℕ) (m : Entry) (i : ℕ) (x : Entry) → p ≤ length xs → slice_get (insert xs p m) i ≡ Some x → (m ≡ x) ⊎ ((j : ℕ) × (slice_get xs j ≡ Some x))
unfolding Came
from xs p m i x le at = pick (came xs p m i x le at) where
  pick : Came xs p m i x → (m ≡ x) ⊎ ((j : ℕ) × (slice_get xs j ≡ Some x))
  pick (inl below) = inr (i, below.1)
  pick (inr (inl here)) = inl here.1
  pick (inr (inr above)) = inr (above.0, above.3)

-- ## The order

-- two entries whose records have one name
abbrev pub AreOfOne : Entry → Entry → Type 0
AreOfOne a b = (a.desc.which.id ≡ b.desc.which.id) × (a.desc.which.run ≡ b.desc.which.run)

before-trans : (a b c : Entry) → IsBefore a b → IsBefore b c → IsBefore a c
before-trans a b c p q = grind (arith, p, q)

after : (a m : Entry) → ¬ IsBefore a m → ¬ AreOfOne a m → IsBefore m a
after a m p q = grind (arith, p, q)

not_self : (a b : Entry) → IsBefore a b → AreOfOne a b → ⊥
not_self a b p q = grind (arith, p, q)

-- those from the place on are after it
behind : (xs : List Entry) (p : ℕ) (m : Entry) → AreAscending xs → IsPlaceFor xs m p → ((i : ℕ) (a : Entry) → slice_get xs i ≡ Some a → ¬ AreOfOne a m) → (i : ℕ) (a : Entry) → p ≤ i → slice_get xs i ≡ Some a → IsBefore m a
behind xs p m ascend is other i a le at = pick (split p i le) where
  split : (u v : ℕ) → u ≤ v → (u ≡ v) ⊎ (u < v)
  split u v le = grind (arith, le)

  pick : (p ≡ i) ⊎ (p < i) → IsBefore m a
  pick (inl same) = after a m (is.stop a (ap (slice_get xs) same ∙ at)) (other i a at)
  pick (inr lt) =
      let first = slice_get-get_or xs p m (omega (arith, lt, slice_get_within xs i a at)) in
      let x = get_or xs p m in
      before-trans m x a (after x m (is.stop x first) (other p x first)) (ascend p i x a lt first at)

pub ascending : (xs ys : List Entry) (m : Entry) → AreAscending xs → PutsEntry xs m ys → ((i : ℕ) (a : Entry) → slice_get xs i ≡ Some a → ¬ AreOfOne a m) → AreAscending ys
unfolding Came
ascending xs ys m ascend puts other = subst AreAscending (sym puts.put) (λ i j a b lt ia jb. pick i j a b lt (came xs puts.place m i a puts.is_place.within ia) (came xs puts.place m j b puts.is_place.within jb)) where
  pick : (i j : ℕ) (a b : Entry) → i < j → Came xs puts.place m i a → Came xs puts.place m j b → IsBefore a b
  pick i j a b lt (inl x) (inl y) = ascend i j a b lt x.1 y.1
  pick i j a b lt (inl x) (inr (inl y)) = subst (IsBefore a) y.1 (puts.is_place.before i a x.0 x.1)
  pick i j a b lt (inl x) (inr (inr y)) = ascend i y.0 a b (omega (arith, x.0, y.2)) x.1 y.3
  pick i j a b lt (inr (inl x)) (inl y) = absurd (omega (arith, lt, x.0, y.0))
  pick i j a b lt (inr (inl x)) (inr (inl y)) = absurd (omega (arith, lt, x.0, y.0))
  pick i j a b lt (inr (inl x)) (inr (inr y)) = subst (λ (c : Entry). IsBefore c b) x.1 (behind xs puts.place m ascend puts.is_place other y.0 b y.2 y.3)
  pick i j a b lt (inr (inr x)) (inl y) = absurd (omega (arith, lt, x.1, x.2, y.0))
  pick i j a b lt (inr (inr x)) (inr (inl y)) = absurd (omega (arith, lt, x.1, x.2, y.0))
  pick i j a b lt (inr (inr x)) (inr (inr y)) = ascend x.0 y.0 a b (omega (arith, lt, x.1, y.1)) x.3 y.3

-- ## Finding the place

-- those up to one that is before it are before it too
pub up_to : (xs : List Entry) (middle : ℕ) (m other : Entry) → AreAscending xs → slice_get xs middle ≡ Some other → IsBefore other m → (i : ℕ) (a : Entry) → i < middle + 1 → slice_get xs i ≡ Some a → IsBefore a m
up_to xs middle m other ascend there less i a lt at = pick (split i middle lt) where
  split : (u v : ℕ) → u < v + 1 → (u < v) ⊎ (u ≡ v)
  split u v lt = grind (arith, lt)

  pick : (i < middle) ⊎ (i ≡ middle) → IsBefore a m
  pick (inl below) = before-trans a other m (ascend i middle a other below at there) less
  pick (inr here) = subst (λ (x : Entry). IsBefore x m) (some_same other a (sym there ∙ ap (slice_get xs) (sym here) ∙ at)) less

pub met_at : (xs : List Entry) (low high : ℕ) (m : Entry) → high ≤ length xs → low ≤ high → high ≤ low → ((i : ℕ) (a : Entry) → i < low → slice_get xs i ≡ Some a → IsBefore a m) → ((a : Entry) → slice_get xs high ≡ Some a → ¬ IsBefore a m) → IsPlaceFor xs m low
met_at xs low high m inside apart end before stop =
    let same : low ≡ high = omega (arith, apart, end) in
    record { within = omega (arith, apart, inside); before = before; stop = λ a at. stop a (ap (slice_get xs) (sym same) ∙ at) }

pub none_past : {X : Type 0} (xs : List Entry) (a : Entry) → slice_get xs (length xs) ≡ Some a → X
none_past xs a at = absurd (omega (arith, slice_get_within xs (length xs) a at))
