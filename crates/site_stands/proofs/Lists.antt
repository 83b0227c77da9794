-- Identities and lists of kept datasets.
use Rattle.std.proofs.Common.{◌≡◌, ◌≢◌, ◌⊎◌, inl, inr, ◌<◌, ◌≤◌, ℕ, zero, suc, Bool, true, false, List, [], ◌∷◌, Some, refl, sym, ◌∙◌, ap, subst, arith}
use Rattle.std.specs.Prelude.{IsTrue, ◌||◌, ◌==◌, ◌&&◌, slice_get}
use Rattle.std.specs.List.{list_any, list_all}
use Rattle.std.proofs.lemmas.Bool.{cases_eq}
use Rattle.std.proofs.lemmas.Bool.Decides.{nat_tests}
use Rattle.scr_base.specs.declared.shape.DataId.{DataId}
use Rattle.scr_base.specs.declared.shape.Shape.{Shape}
use Rattle.scr_base.specs.Sets.{is_among}
use Rattle.ckpt_model.specs.Machine.{Kept}
use Rattle.ckpt_model.specs.Questions.{is_id_of}
use Rattle.ckpt_model.proofs.Plays.{same_id_is}
use Rattle.ckpt_model.proofs.SameLemmas.{id-same}
use Rattle.site_stands.specs.Cells.{physical_nodes}

pub physical_low : (shape : Shape) → physical_nodes shape ≤ 32
physical_low shape = grind (arith, nat_tests, shape.limits)

pub data_same : (a b : DataId) → a.id ≡ b.id → a.run ≡ b.run → a ≡ b
data_same a b i r = ap (λ (x : ℕ). let d : DataId = record { id = x; run = a.run } in d) i ∙ ap (λ (x : ℕ). let d : DataId = record { id = b.id; run = x } in d) r

pub same_or_other : (a b : DataId) → (a ≡ b) ⊎ (a ≢ b)
same_or_other a b = pick (cases_eq a.id b.id) (cases_eq a.run b.run) where
  pick : (a.id ≡ b.id) ⊎ (a.id ≢ b.id) → (a.run ≡ b.run) ⊎ (a.run ≢ b.run) → (a ≡ b) ⊎ (a ≢ b)
  pick (inl i) (inl r) = inl (data_same a b i r)
  pick (inr o) r = inr (λ e. o (ap (λ (d : DataId). d.id) e))
  pick (inl i) (inr o) = inr (λ e. o (ap (λ (d : DataId). d.run) e))

-- a kept one of this identity
pub kept_at : (which : DataId) (xs : List Kept) → list_any (is_id_of which) xs ≡ true → (k : Kept) × (i : ℕ) × (slice_get xs i ≡ Some k) × (k.dataset.which ≡ which)
kept_at which [] there = absurd (cc there)
kept_at which (x ∷ xs) there = split (is_id_of which x) refl there (λ rest. kept_at which xs rest)
  where
    split : (b : Bool) → is_id_of which x ≡ b → b || list_any (is_id_of which) xs ≡ true → (list_any (is_id_of which) xs ≡ true → (k : Kept) × (i : ℕ) × (slice_get xs i ≡ Some k) × (k.dataset.which ≡ which)) → (k : Kept) × (i : ℕ) × (slice_get (x ∷ xs) i ≡ Some k) × (k.dataset.which ≡ which)
    split true is h rest = (x, 0, refl, is_it is)
      where
        is_it : is_id_of which x ≡ true → x.dataset.which ≡ which
        is_it e = same_id_is x.dataset.which which e
    split false is h rest = let there = rest h in (there.0, suc there.1, there.2, there.3)

-- a kept one is there by its identity
pub any_there : (k : Kept) (xs : List Kept) (i : ℕ) → slice_get xs i ≡ Some k → list_any (is_id_of k.dataset.which) xs ≡ true
any_there k [] i at = absurd (cc at)
any_there k (x ∷ xs) zero at = let same : x ≡ k = cc at in first (is_id_of k.dataset.which x) (subst (λ (y : Kept). is_id_of k.dataset.which y ≡ true) (sym same) (id-same k.dataset.which))
  where
    first : (b : Bool) → b ≡ true → b || list_any (is_id_of k.dataset.which) xs ≡ true
    first true is = refl
    first false is = absurd (cc is)
any_there k (x ∷ xs) (suc i) at = rest (is_id_of k.dataset.which x) (any_there k xs i at)
  where
    rest : (b : Bool) → list_any (is_id_of k.dataset.which) xs ≡ true → b || list_any (is_id_of k.dataset.which) xs ≡ true
    rest true is = refl
    rest false is = is

pub below_or_not : (a b : ℕ) → (a < b) ⊎ (b ≤ a)
below_or_not a b = grind arith

-- a number is among itself
pub alone : (p q : ℕ) → p ≡ q → IsTrue (is_among p (q ∷ []))
alone p q same = rw (here q p (sym same)) refl where
  here : (x y : ℕ) → x ≡ y → (x == y) ≡ true
  here x y e = grind (arith, nat_tests)

pub not_both : {X : Type 0} (b : Bool) → b ≡ true → b ≡ false → X
not_both b t f = absurd (cc (t, f))

-- each item of a list that passes a test passes it
pub all_at : {A : Type 0} (t : A → Bool) (xs : List A) (i : ℕ) (x : A) → IsTrue (list_all t xs) → slice_get xs i ≡ Some x → IsTrue (t x)
all_at t [] i x all at = absurd (cc at)
all_at t (y ∷ ys) i x all at = split (t y) refl all i at (λ j rest there. all_at t ys j x rest there)
  where
    split : (b : Bool) → t y ≡ b → IsTrue (b && list_all t ys) → (j : ℕ) → slice_get (y ∷ ys) j ≡ Some x → ((k : ℕ) → IsTrue (list_all t ys) → slice_get ys k ≡ Some x → IsTrue (t x)) → IsTrue (t x)
    split true is rest zero there go = let same : y ≡ x = cc there in subst (λ z. IsTrue (t z)) same is
    split true is rest (suc j) there go = go j rest there
    split false is rest j there go = absurd (cc rest)
