-- The names that are picked from a device's names.
use Rattle.std.proofs.Common.{◌≡◌, ◌≢◌, ◌⊎◌, inl, inr, ℕ, ◌+◌, ◌<◌, List, [], ◌∷◌, ◌++◌, length, get_or, refl, sym, ap, ◌∙◌, subst, arith}
use Rattle.std.specs.Prelude.{All, Contains}
use Rattle.std.specs.Ordering.{nat_cmp, ordering_reverse}
use Rattle.std.specs.Cmp.Lexicographic.{slice_cmp}
use Rattle.std.specs.declared.cmp.Ordering.TheVariants.{Less}
use Rattle.std.proofs.lemmas.Cmp.{nat_list_cmp_total}
use Rattle.std.proofs.lemmas.List.{get_or_default}
use Rattle.std.proofs.lemmas.List.Elements.{All-push, Contains-append_left, Contains-push}
use Rattle.std.proofs.lemmas.List.Quantifiers.{all_pairs_push}
use Rattle.node_device.specs.DeviceState.{DeviceState, IsAscending, IsSound}
use Rattle.prefix_store.specs.Names.{IsUnder}
use Rattle.prefix_store.specs.Calls.{AreFilesUnder}
use Rattle.prefix_store.specs.ClearSteps.{IsPicked, Picks}

below_or_last : (k n : ℕ) → k < n + 1 → (k < n) ⊎ (k ≡ n)
below_or_last k n lt = grind arith

never_less_than_itself : (name : List ℕ) → slice_cmp nat_cmp name name ≡ Less → ⊥
never_less_than_itself name is = absurd (let reversed : Less ≡ ordering_reverse Less = sym is ∙ nat_list_cmp_total.antisymm name name ∙ ap ordering_reverse is in cc reversed)

differ : (names : List (List ℕ)) (j n : ℕ) → IsAscending names → j < n → n < length names → get_or names j [] ≢ get_or names n []
differ names j n ascending lt within is = never_less_than_itself (get_or names n []) (subst (λ (x : List ℕ). slice_cmp nat_cmp x (get_or names n []) ≡ Less) is (ascending j n lt within))

module _ (folder : List ℕ) (names : List (List ℕ)) where
  pub picks_none : Picks folder names 0 []
  picks_none = record {
    each = λ k d lt. absurd (omega (arith, lt));
    every = λ k lt. absurd (omega (arith, lt));
    distinct = λ i j d lt within. absurd (omega (arith, within));
  }

  each_more : (n : ℕ) (picked : List (List ℕ)) → All (IsPicked folder names n) picked → All (IsPicked folder names (n + 1)) picked
  each_more n picked all k d lt =
      let one = all k d lt in record { under = one.under; stands = (one.stands.0, omega (arith, one.stands.1), one.stands.2) }

  pub picks_skip : (n : ℕ) (picked : List (List ℕ)) → (IsUnder folder (get_or names n []) → ⊥) → Picks folder names n picked → Picks folder names (n + 1) picked
  picks_skip n picked other picks = record {
    each = each_more n picked picks.each;
    every = λ k lt named. elim (below_or_last k n lt) [
      | inl before ↦ picks.every k before named
      | inr here ↦ absurd (other (subst (λ (j : ℕ). IsUnder folder (get_or names j [])) here named))
    ];
    distinct = picks.distinct;
  }

  -- no name that was picked is the next one
  new : (n : ℕ) (picked : List (List ℕ)) → IsAscending names → n < length names → Picks folder names n picked → All (λ name. get_or names n [] ≢ name) picked
  new n picked ascending within picks k d lt is =
      let one = picks.each k d lt in differ names one.stands.0 n ascending one.stands.1 within (one.stands.2 ∙ sym is)

  pub picks_back : (n : ℕ) (picked : List (List ℕ)) → IsAscending names → n < length names → IsUnder folder (get_or names n []) → Picks folder names n picked → Picks folder names (n + 1) (picked ++ get_or names n [] ∷ [])
  picks_back n picked ascending within named picks = record {
    each = All-push (IsPicked folder names (n + 1)) picked (get_or names n []) (each_more n picked picks.each) (record { under = named; stands = (n, omega arith, refl) });
    every = λ k lt is_named. elim (below_or_last k n lt) [
      | inl before ↦ Contains-append_left picked (get_or names n [] ∷ []) (get_or names k []) (picks.every k before is_named)
      | inr here ↦ subst (λ (j : ℕ). Contains (picked ++ get_or names n [] ∷ []) (get_or names j [])) (sym here) (Contains-push picked (get_or names n []))
    ];
    distinct = all_pairs_push (λ name other. name ≢ other) picked (get_or names n []) picks.distinct (λ k d lt is. new n picked ascending within picks k d lt (sym is));
  }

-- what is picked of all names of a device
pub all_picked : (folder : List ℕ) (d : DeviceState) (picked : List (List ℕ)) → IsSound d → Picks folder d.names (length d.names) picked → AreFilesUnder folder d picked
all_picked folder d picked sound picks = record {
  there = λ k x lt.
      let one = picks.each k x lt in
      let name = get_or picked k x in
      let some = (sound.listed name).0 (one.stands.0, one.stands.1, sym (get_or_default d.names one.stands.0 [] name one.stands.1) ∙ one.stands.2) in
      ((one.under, sound.named name some), some);
  every = λ name under some.
      let listed = (sound.listed name).1 some in
      let is : get_or d.names listed.0 [] ≡ name = get_or_default d.names listed.0 [] name listed.1 ∙ listed.2 in
      subst (λ (x : List ℕ). Contains picked x) is (picks.every listed.0 listed.1 (subst (λ (x : List ℕ). IsUnder folder x) (sym is) under));
  distinct = picks.distinct;
}
