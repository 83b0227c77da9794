-- What a cut run leaves of the prefix, pair by pair.
use Rattle.std.proofs.Common.{◌≡◌, ℕ, Bool, true, false, List, [], ◌∷◌, Option, Some, None, refl, sym, ◌∙◌, ap, subst, arith}
use Rattle.std.proofs.lemmas.Bool.Decides.{nat_tests}
use Rattle.std.specs.Prelude.{IsTrue, ◌==◌, ◌&&◌, slice_get, bytes_eq, codes, if◌then◌else◌}
use Rattle.std.proofs.lemmas.Cmp.{nat_list_eq_equiv}
use Rattle.scr_base.specs.declared.shape.DataId.{DataId}
use Rattle.node_device.specs.File.{MayLeave}
use Rattle.node_device.specs.DeviceState.{DeviceState, IsOutcome}
use Rattle.gated_record.specs.Pair.{copy_name, pair_value, newer, value_in}
use Rattle.gated_record.specs.PairStages.{PairLeaves}
use Rattle.gated_record.specs.declared.pair.PairValue.{PairValue}
use Rattle.gate_outcomes.specs.Leaves.{Leaves}
use Rattle.halt_file.specs.Stores.{halt_in}
use Rattle.ckpt_model.specs.Machine.{Machine, Setup, Entry, Pending}
use Rattle.ckpt_model.specs.Stops.{pending_of, halt_left, mark_left}
use Rattle.site_calls.specs.Numbers.{run_number}
use Rattle.site_core.specs.Left.{LeavesPrefix}
use Rattle.site_stands.specs.Entry.{ReadsEntry, entry_name, mark_in}
use Rattle.site_stands.specs.View.{run_in}
use Rattle.site_stands.specs.Prefix.{IsRunOf}
use Rattle.site_stands.specs.Site.{PrefixStands}

-- the number that a value of the pair `run` tells
pub same_run : (v : Option PairValue) → run_number v ≡ run_in v
same_run None = refl
same_run (Some v) = refl

bytes_same : (a b : List ℕ) → bytes_eq a b ≡ true → a ≡ b
bytes_same [] [] is = refl
bytes_same [] (y ∷ ys) is = absurd (cc is)
bytes_same (x ∷ xs) [] is = absurd (cc is)
bytes_same (x ∷ xs) (y ∷ ys) is = split (x == y) refl is (λ rest. bytes_same xs ys rest)
  where
    number : (u v : ℕ) → (u == v) ≡ true → u ≡ v
    number u v e = grind (arith, nat_tests, e)

    split : (b : Bool) → (x == y) ≡ b → b && bytes_eq xs ys ≡ true → (bytes_eq xs ys ≡ true → xs ≡ ys) → x ∷ xs ≡ y ∷ ys
    split true e rest go = ap (λ (n : ℕ). n ∷ xs) (number x y e) ∙ ap (λ (l : List ℕ). y ∷ l) (go rest)
    split false e rest go = absurd (cc rest)

-- two files so, and all others as they read
abbrev two_left : DeviceState → List ℕ → List ℕ → Option (List ℕ) → Option (List ℕ) → List ℕ → Option (List ℕ)
two_left disk a b x y = λ q. if bytes_eq q a then x else (if bytes_eq q b then y else (disk.file q).now)

two_outcome : (disk : DeviceState) (a b : List ℕ) (x y : Option (List ℕ)) → ((q : List ℕ) → MayLeave (disk.file q) (disk.file q).now) → MayLeave (disk.file a) x → MayLeave (disk.file b) y → IsOutcome disk (two_left disk a b x y)
two_outcome disk a b x y law may_x may_y q = pick (bytes_eq q a) refl (bytes_eq q b) refl
  where
    pick : (s : Bool) → bytes_eq q a ≡ s → (t : Bool) → bytes_eq q b ≡ t → MayLeave (disk.file q) (if s then x else (if t then y else (disk.file q).now))
    pick true is t it = subst (λ (n : List ℕ). MayLeave (disk.file n) x) (sym (bytes_same q a is)) may_x
    pick false is true it = subst (λ (n : List ℕ). MayLeave (disk.file n) y) (sym (bytes_same q b it)) may_y
    pick false is false it = law q

first_is : (disk : DeviceState) (a b : List ℕ) (x y : Option (List ℕ)) → two_left disk a b x y a ≡ x
first_is disk a b x y = split (bytes_eq a a) (nat_list_eq_equiv.refl a)
  where
    split : (s : Bool) → IsTrue s → (if s then x else (if bytes_eq a b then y else (disk.file a).now)) ≡ x
    split true is = refl
    split false is = absurd (cc is)

second_is : (disk : DeviceState) (a b : List ℕ) (x y : Option (List ℕ)) → bytes_eq b a ≡ false → two_left disk a b x y b ≡ y
second_is disk a b x y differ = split (bytes_eq b a) differ (bytes_eq b b) (nat_list_eq_equiv.refl b)
  where
    split : (s : Bool) → s ≡ false → (t : Bool) → IsTrue t → (if s then x else (if t then y else (disk.file b).now)) ≡ y
    split false is true it = refl
    split false is false it = absurd (cc it)
    split true is t it = absurd (cc is)

-- what is said of each outcome of the prefix is said of a pair's
pair_of : (stem : List ℕ) (P : Option PairValue → Type 0) (disk : DeviceState) → ((q : List ℕ) → MayLeave (disk.file q) (disk.file q).now) → bytes_eq (copy_name stem 1) (copy_name stem 0) ≡ false
    → ((left : List ℕ → Option (List ℕ)) → IsOutcome disk left → P (pair_value stem left)) → PairLeaves stem disk P
pair_of stem P disk law differ each x y may_x may_y =
    let a = copy_name stem 0 in
    let b = copy_name stem 1 in
    let so = each (two_left disk a b x y) (two_outcome disk a b x y law may_x may_y) in
    subst (λ (z : Option (List ℕ)). P (newer (value_in 0 z) (value_in 1 y))) (first_is disk a b x y)
    (subst (λ (z : Option (List ℕ)). P (newer (value_in 0 (two_left disk a b x y a)) (value_in 1 z))) (second_is disk a b x y differ) so)

-- What a cut run leaves of the prefix is what it holds for that state, where no entry is there and no mark.
pub prefix_holds : (s : Setup) (disk : DeviceState) (m : Machine) → ((q : List ℕ) → MayLeave (disk.file q) (disk.file q).now) → LeavesPrefix disk m → pending_of m.stage ≡ Pending.Nothing → m.index ≡ [] → m.mark ≡ None
    → ((which : DataId) → Leaves (disk.file (entry_name which)) (λ o. ReadsEntry o which → ⊥)) → PairLeaves (codes "cur") disk (λ v. mark_in v ≡ None) → PrefixStands s disk m
prefix_holds s disk m law leaves plain no_index no_mark none cur = record {
  entries = λ i e at. absurd (no_entry i e (ap (λ (es : List Entry). slice_get es i) (sym no_index) ∙ at));
  others = λ which o may reads opens. absurd (none which o may reads);
  later = λ which later o may reads. none which o may reads;
  pairs = record {
    run = pair_of (codes "run") (λ v. IsRunOf m (run_in v)) disk law refl (λ left outcome. let l = leaves left outcome in record { stored = l.stored; may = l.may; is = sym (same_run (pair_value (codes "run") left)) ∙ l.run });
    halt = pair_of (codes "halt") (λ v. (took : Bool) × (halt_in v ≡ halt_left (pending_of m.stage) took m.halt)) disk law refl (λ left outcome. (false, (leaves left outcome).halt ∙ ap (λ (p : Pending). halt_left p false m.halt) (sym plain)));
    mark = λ x y may_x may_y. (false, cur x y may_x may_y ∙ sym no_mark ∙ ap (λ (p : Pending). mark_left p false m.mark) (sym plain));
  };
}
  where
    no_entry : (i : ℕ) (e : Entry) → slice_get [] i ≡ Some e → ⊥
    no_entry i e at = cc at
