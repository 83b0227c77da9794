-- A look leaves some of the kept datasets.
use Rattle.std.proofs.Common.{◌≡◌, ◌⊎◌, inl, inr, Bool, true, false, List, [], ◌∷◌, Some, None, refl, sym, ap, subst}
use Rattle.std.specs.Prelude.{option_map, if◌then◌else◌}
use Rattle.scr_base.specs.Same.{same_id}
use Rattle.ckpt_model.specs.declared.event.FoundRow.{FoundRow}
use Rattle.ckpt_model.specs.Dataset.{Dataset}
use Rattle.ckpt_model.specs.Machine.{Setup, Kept}
use Rattle.ckpt_model.specs.Loss.{looked, kept_found, may_find, may_leave}
use Rattle.ckpt_model.proofs.ShowsLemmas.{mapped}
use Rattle.model_proper.proofs.Lists.{In, Thins}
use Rattle.model_proper.proofs.Fair.Passes.{of_kept, IsHeld}
use Rattle.model_proper.proofs.Kept.Held.{held_found}

-- what a look leaves of these
pub record IsLeft (s : Setup) (ks found : List Kept) : Type 0 where
  pub thin : Thins (of_kept ks) (of_kept found)
  pub held : ((k : Kept) → In ks k → IsHeld s k) → (k : Kept) → In found k → IsHeld s k

left_out : (s : Setup) (k : Kept) (ks found : List Kept) → IsLeft s ks found → IsLeft s (k ∷ ks) found
left_out s k ks found is = record { thin = inl is.thin; held = λ held x at. is.held (λ y there. held y (inr there)) x at }

left_in : (s : Setup) (k now : Kept) (ks rest : List Kept) → now.dataset ≡ k.dataset → (IsHeld s k → IsHeld s now) → IsLeft s ks rest → IsLeft s (k ∷ ks) (now ∷ rest)
left_in s k now ks rest same keeps is = record {
  thin = inr (of_kept rest, ap (λ (d : Dataset). d ∷ of_kept rest) same, is.thin);
  held = λ held x at. pick held x at;
}
  where
    pick : ((y : Kept) → (k ≡ y) ⊎ In ks y → IsHeld s y) → (x : Kept) → (now ≡ x) ⊎ In rest x → IsHeld s x
    pick held x (inl it) = subst (λ (y : Kept). IsHeld s y) it (keeps (held k (inl refl)))
    pick held x (inr there) = is.held (λ y y_in. held y (inr y_in)) x there

pub looked_left : (s : Setup) (rows : List FoundRow) (ks found : List Kept) → looked rows ks ≡ Some found → IsLeft s ks found
looked_left s [] [] found is = let e : [] ≡ found = cc is in subst (λ (l : List Kept). IsLeft s [] l) e (record { thin = refl; held = λ held x at. absurd at })
looked_left s (row ∷ rows) [] found is = absurd (cc is)
looked_left s [] (k ∷ ks) found is = split (may_leave k) is (looked_left s [] ks found)
  where
    split : (b : Bool) → (if b then looked [] ks else None) ≡ Some found → (looked [] ks ≡ Some found → IsLeft s ks found) → IsLeft s (k ∷ ks) found
    split true rest go = left_out s k ks found (go rest)
    split false rest go = absurd (cc rest)
looked_left s (row ∷ rows) (k ∷ ks) found is = split (same_id row.which k.dataset.which) (may_find row.lost k) (may_leave k) is (looked_left s rows ks) (looked_left s (row ∷ rows) ks found)
  where
    split : (b c d : Bool) → (if b then (if c then option_map (λ rest. kept_found row.lost k ∷ rest) (looked rows ks) else None) else (if d then looked (row ∷ rows) ks else None)) ≡ Some found
        → ((rest : List Kept) → looked rows ks ≡ Some rest → IsLeft s ks rest) → (looked (row ∷ rows) ks ≡ Some found → IsLeft s ks found) → IsLeft s (k ∷ ks) found
    split true true d rest one none =
        let from = mapped (λ (l : List Kept). kept_found row.lost k ∷ l) (looked rows ks) found rest in
        subst (λ (l : List Kept). IsLeft s (k ∷ ks) l) (sym from.2) (left_in s k (kept_found row.lost k) ks from.0 refl (held_found s row.lost k) (one from.0 from.1))
    split true false d rest one none = absurd (cc rest)
    split false c true rest one none = left_out s k ks found (none rest)
    split false c false rest one none = absurd (cc rest)
