-- The names that are picked from a device's names.
use Rattle.std.proofs.Common.{◌≡◌, ◌≢◌, ◌⊎◌, inl, inr, ℕ, zero, suc, ◌+◌, ◌<◌, List, [], ◌∷◌, ◌++◌, length, get_or, refl, sym, ap, ◌∙◌, subst, arith}
use Rattle.std.specs.Prelude.{All, Contains}
use Rattle.std.specs.Ordering.{nat_cmp, ordering_reverse}
use Rattle.std.specs.Cmp.Lexicographic.{slice_cmp}
use Rattle.std.specs.declared.cmp.Ordering.TheVariants.{Less}
use Rattle.std.proofs.lemmas.Cmp.{nat_list_cmp_total}
use Rattle.std.proofs.lemmas.List.{get_or_default, get_or_append_left, length_push}
use Rattle.std.proofs.lemmas.List.Elements.{All-cons, All-push, Contains-append_left, Contains-push}
use Rattle.std.proofs.lemmas.List.Kept.{AllPairs-cons}
use Rattle.std.proofs.lemmas.List.Quantifiers.{all_pairs_push}
use Rattle.scr_base.specs.declared.shape.DataId.{DataId}
use Rattle.node_device.specs.DeviceState.{DeviceState, IsAscending, IsSound}
use Rattle.member_store.specs.Names.{record_name, IsNameOf}
use Rattle.member_store.specs.Calls.{AreFilesOf}
use Rattle.member_store.specs.DropSteps.{IsPicked, Picks}

below_or_last : (k n : ℕ) → k < n + 1 → (k < n) ⊎ (k ≡ n)
below_or_last k n lt = grind arith

never_less_than_itself : (name : List ℕ) → slice_cmp nat_cmp name name ≡ Less → ⊥
never_less_than_itself name is = absurd (let reversed : Less ≡ ordering_reverse Less = sym is ∙ nat_list_cmp_total.antisymm name name ∙ ap ordering_reverse is in cc reversed)

differ : (names : List (List ℕ)) (j n : ℕ) → IsAscending names → j < n → n < length names → get_or names j [] ≢ get_or names n []
differ names j n ascending lt within is = never_less_than_itself (get_or names n []) (subst (λ (x : List ℕ). slice_cmp nat_cmp x (get_or names n []) ≡ Less) is (ascending j n lt within))

module _ (which : DataId) (node : ℕ) (names : List (List ℕ)) where
  pub picks_none : Picks which node names 0 []
  picks_none = record {
    each = λ k d lt. absurd (omega (arith, lt));
    every = λ k lt. absurd (omega (arith, lt));
    distinct = λ i j d lt within. absurd (omega (arith, within));
    last = λ k lt. absurd (omega (arith, lt));
  }

  each_more : (n : ℕ) (picked : List (List ℕ)) → All (IsPicked which node names n) picked → All (IsPicked which node names (n + 1)) picked
  each_more n picked all k d lt =
      let one = all k d lt in record { named = one.named; stands = (one.stands.0, omega (arith, one.stands.1), one.stands.2) }

  pub picks_skip : (n : ℕ) (picked : List (List ℕ)) → (IsNameOf which node (get_or names n []) → ⊥) → Picks which node names n picked → Picks which node names (n + 1) picked
  picks_skip n picked other picks = record {
    each = each_more n picked picks.each;
    every = λ k lt named. elim (below_or_last k n lt) [
      | inl before ↦ picks.every k before named
      | inr here ↦ absurd (other (subst (λ (j : ℕ). IsNameOf which node (get_or names j [])) here named))
    ];
    distinct = picks.distinct;
    last = picks.last;
  }

  -- no name that was picked is the next one
  new : (n : ℕ) (picked : List (List ℕ)) → IsAscending names → n < length names → Picks which node names n picked → All (λ name. get_or names n [] ≢ name) picked
  new n picked ascending within picks k d lt is =
      let one = picks.each k d lt in differ names one.stands.0 n ascending one.stands.1 within (one.stands.2 ∙ sym is)

  pub picks_front : (n : ℕ) (picked : List (List ℕ)) → IsAscending names → n < length names → IsNameOf which node (get_or names n []) → get_or names n [] ≢ record_name which node → Picks which node names n picked → Picks which node names (n + 1) (get_or names n [] ∷ picked)
  picks_front n picked ascending within named no_record picks = record {
    each = All-cons (IsPicked which node names (n + 1)) (get_or names n []) picked (record { named = named; stands = (n, omega arith, refl) }) (each_more n picked picks.each);
    every = λ k lt is_named. elim (below_or_last k n lt) [
      | inl before ↦ let one = picks.every k before is_named in (suc one.0, omega (arith, one.1), one.2)
      | inr here ↦ (0, omega arith, ap (λ (j : ℕ). get_or names j []) (sym here))
    ];
    distinct = AllPairs-cons (λ name other. name ≢ other) (get_or names n []) picked (new n picked ascending within picks) picks.distinct;
    last = last_front;
  }
    where
      last_front : (k : ℕ) → k < length (get_or names n [] ∷ picked) → get_or (get_or names n [] ∷ picked) k [] ≡ record_name which node → k + 1 ≡ length (get_or names n [] ∷ picked)
      last_front zero lt is = absurd (no_record is)
      last_front (suc k) lt is = let same : k + 1 ≡ length picked = picks.last k (omega (arith, lt)) is in omega (arith, same)

  pub picks_back : (n : ℕ) (picked : List (List ℕ)) → IsAscending names → n < length names → IsNameOf which node (get_or names n []) → get_or names n [] ≡ record_name which node → Picks which node names n picked → Picks which node names (n + 1) (picked ++ get_or names n [] ∷ [])
  picks_back n picked ascending within named is_record picks = record {
    each = All-push (IsPicked which node names (n + 1)) picked (get_or names n []) (each_more n picked picks.each) (record { named = named; stands = (n, omega arith, refl) });
    every = λ k lt is_named. elim (below_or_last k n lt) [
      | inl before ↦ Contains-append_left picked (get_or names n [] ∷ []) (get_or names k []) (picks.every k before is_named)
      | inr here ↦ subst (λ (j : ℕ). Contains (picked ++ get_or names n [] ∷ []) (get_or names j [])) (sym here) (Contains-push picked (get_or names n []))
    ];
    distinct = all_pairs_push (λ name other. name ≢ other) picked (get_or names n []) picks.distinct (λ k d lt is. new n picked ascending within picks k d lt (sym is));
    last = λ k lt is. elim (below_or_last k (length picked) (omega (arith, lt, length_push picked (get_or names n [])))) [
      | inl before ↦ absurd (new n picked ascending within picks k [] before (is_record ∙ sym is ∙ get_or_append_left picked (get_or names n [] ∷ []) [] k before))
      | inr here ↦ omega (arith, here, length_push picked (get_or names n []))
    ];
  }

-- what is picked of all names of a device
pub all_picked : (which : DataId) (node : ℕ) (d : DeviceState) (picked : List (List ℕ)) → IsSound d → Picks which node d.names (length d.names) picked → AreFilesOf which node d picked
all_picked which node d picked sound picks = record {
  there = λ k x lt.
      let one = picks.each k x lt in
      let name = get_or picked k x in
      (one.named, (sound.listed name).0 (one.stands.0, one.stands.1, sym (get_or_default d.names one.stands.0 [] name one.stands.1) ∙ one.stands.2));
  every = λ name file.
      let listed = (sound.listed name).1 file.1 in
      let is : get_or d.names listed.0 [] ≡ name = get_or_default d.names listed.0 [] name listed.1 ∙ listed.2 in
      subst (λ (x : List ℕ). Contains picked x) is (picks.every listed.0 listed.1 (subst (λ (x : List ℕ). IsNameOf which node x) (sym is) file.0));
  distinct = picks.distinct;
  last = picks.last;
}
