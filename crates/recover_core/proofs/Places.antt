-- What stands in a place.
use Rattle.std.proofs.Common.{◌≡◌, ◌<◌, ◌≤◌, ℕ, Bool, true, false, List, length, get_or, sym, ◌∙◌, ap, subst, arith}
use Rattle.std.specs.Prelude.{nat_lt, ◌==◌, ◌&&◌}
use Rattle.std.proofs.lemmas.Bool.Decides.{nat_tests}
use Rattle.std.proofs.lemmas.Option.{slice_get_within, slice_get-get_or, get_or_from_slice_get}
use Rattle.scr_base.specs.declared.shape.DataId.{DataId}
use Rattle.site_stands.proofs.Lists.{data_same}
use Rattle.recover_core.specs.Seen.{IsThere}
use Rattle.recover_core.specs.declared.seen.SeenSet.{SeenSet}

same_tested : (a b : DataId) → true ≡ (a.id == b.id && a.run == b.run) → a ≡ b
same_tested a b is = data_same a b (ids a.id b.id a.run b.run is) (runs a.id b.id a.run b.run is) where
  ids : (i j r s : ℕ) → true ≡ (i == j && r == s) → i ≡ j
  ids i j r s is = grind (arith, nat_tests, is)

  runs : (i j r s : ℕ) → true ≡ (i == j && r == s) → r ≡ s
  runs i j r s is = grind (arith, nat_tests, is)

other_tested : (a b : DataId) → false ≡ (a.id == b.id && a.run == b.run) → a ≡ b → ⊥
other_tested a b is same = no a.id b.id a.run b.run is (ap (λ (d : DataId). d.id) same) (ap (λ (d : DataId). d.run) same) where
  no : (i j r s : ℕ) → false ≡ (i == j && r == s) → i ≡ j → r ≡ s → ⊥
  no i j r s is e f = grind (arith, nat_tests, is, e, f)

pub there_by : (sets : List SeenSet) (place : ℕ) (which : DataId) (x : SeenSet) (b : Bool) → place < length sets → b ≡ ((get_or sets place x).desc.which.id == which.id && (get_or sets place x).desc.which.run == which.run) → IsThere sets place which b
there_by sets place which x true lt is = (get_or sets place x, slice_get-get_or sets place x lt, same_tested (get_or sets place x).desc.which which is)
there_by sets place which x false lt is = λ y at same. other_tested (get_or sets place x).desc.which which is (ap (λ (z : SeenSet). z.desc.which) (get_or_from_slice_get sets place y x at) ∙ same)

pub past_end : (sets : List SeenSet) (place : ℕ) (which : DataId) → length sets ≤ place → IsThere sets place which (nat_lt place (length sets))
past_end sets place which end = subst (IsThere sets place which) (sym is) (λ x at. absurd (omega (arith, end, slice_get_within sets place x at))) where
  is : nat_lt place (length sets) ≡ false
  is = grind (arith, nat_tests, end)
