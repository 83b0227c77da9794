-- A payload tells an identity exactly where it spells it.
use Rattle.std.proofs.Common.{◌≡◌, ◌≢◌, ℕ, ◌<◌, ◌^◌, ◌&&◌, ltb, cond, Bool, true, false, List, Option, Some, None, Result, Ok, Err, refl, sym, ap, ◌∙◌, subst, arith, decimal, bytes_eq, codes}
use Rattle.std.specs.Prelude.{IfSome, IsNone, option_and_then}
use Rattle.std.specs.Str.Parse.{digits_value}
use Rattle.std.proofs.lemmas.Bool.Decides.{nat_tests}
use Rattle.std.proofs.lemmas.Fmt.{decimal_is_IsNumeral}
use Rattle.std.proofs.lemmas.Slice.Eq.{bytes_eq-Decides}
use Rattle.scr_base.specs.declared.shape.DataId.{DataId}
use Rattle.kvtree.specs.Entries.{Entries}
use Rattle.kvtree.specs.Encoding.{IsEncoding}
use Rattle.kvtree.specs.Reading.{all_of}
use Rattle.kvtree.specs.declared.error.TreeError.{TreeError}
use Rattle.kvtree.proofs.Laws.{all_again}
use Rattle.prefix_index.specs.Marks.{mark_tree, mark_payload, small_number, number_under, mark_spelled, mark_told, mark_by, mark_of, IsSmall}
use Rattle.prefix_index.proofs.Trees.{mark_is}

same_bytes : (xs ys : List ℕ) → xs ≡ ys → bytes_eq xs ys ≡ true
same_bytes xs ys e = grind (arith, bytes_eq-Decides)

are_same : (xs ys : List ℕ) → bytes_eq xs ys ≡ true → xs ≡ ys
are_same xs ys e = grind (arith, bytes_eq-Decides)

is_below : (n m : ℕ) → n < m → ltb n m ≡ true
is_below n m lt = grind (arith, nat_tests)

below_is : (n m : ℕ) → ltb n m ≡ true → n < m
below_is n m e = grind (arith, nat_tests)

some_same : {A : Type 0} (x y : A) → Some x ≡ Some y → x ≡ y
some_same x y e = cc

ok_same : (x y : Entries) → ◌≡◌ {A = Result Entries TreeError} (Ok x) (Ok y) → x ≡ y
ok_same x y e = cc

number_again : (n : ℕ) → n < 2 ^ 32 → small_number (decimal n) ≡ Some n
unfolding small_number
number_again n lt =
    let value : digits_value 10 (decimal n) ≡ n = (decimal_is_IsNumeral n (omega (arith, lt))).1 in
    rw (value, same_bytes (decimal n) (decimal n) refl, is_below n (2 ^ 32) lt) refl

spelled_is : (which : DataId) (payload : List ℕ) → mark_payload which ≡ payload → mark_spelled payload which ≡ Some which
unfolding mark_spelled
spelled_is which payload is = rw (same_bytes (mark_payload which) payload is) refl

told_again : (which : DataId) → IsSmall which → mark_told (mark_payload which) (mark_tree which) ≡ Some which
told_again which small =
    ap (λ (o : Option ℕ). option_and_then (λ id. option_and_then (λ run. let w : DataId = record { id = id; run = run } in mark_spelled (mark_payload which) w) (small_number (decimal which.run))) o) (number_again which.id small.0)
    ∙ ap (λ (o : Option ℕ). option_and_then (λ run. let w : DataId = record { id = which.id; run = run } in mark_spelled (mark_payload which) w) o) (number_again which.run small.1)
    ∙ spelled_is which (mark_payload which) refl

pub mark_again : (which : DataId) → IsSmall which → mark_of (mark_payload which) ≡ Some which
mark_again which small = ap (mark_by (mark_payload which)) (all_again (mark_payload which) (mark_tree which) (mark_is which small.0 small.1)) ∙ told_again which small

-- ## What is told is spelled

number_fits : (ds : List ℕ) → IfSome (small_number ds) (λ n. n < 2 ^ 32)
unfolding small_number
number_fits ds = by_test (bytes_eq (decimal (digits_value 10 ds)) ds) (ltb (digits_value 10 ds) (2 ^ 32)) (digits_value 10 ds) refl
  where
    by_test : (a b : Bool) (n : ℕ) → ltb n (2 ^ 32) ≡ b → IfSome (cond (a && b) (Some n) None) (λ n. n < 2 ^ 32)
    by_test true true n is = below_is n (2 ^ 32) is
    by_test true false n is = tt
    by_test false b n is = tt

under_fits : (key : Option (List ℕ)) → IfSome (option_and_then small_number key) (λ n. n < 2 ^ 32)
under_fits None = tt
under_fits (Some ds) = number_fits ds

-- a payload that is told as this identity spells it
Spells : List ℕ → DataId → Type 0
Spells payload which = (mark_payload which ≡ payload) × IsSmall which

spelled_only : (payload : List ℕ) (which w : DataId) → IsSmall which → mark_spelled payload which ≡ Some w → Spells payload w
unfolding mark_spelled Spells
spelled_only payload which w small is = by_test (bytes_eq (mark_payload which) payload) refl is
  where
    by_test : (b : Bool) → bytes_eq (mark_payload which) payload ≡ b → cond b (Some which) None ≡ Some w → (mark_payload w ≡ payload) × IsSmall w
    by_test true same told = subst (λ (v : DataId). (mark_payload v ≡ payload) × IsSmall v) (some_same which w told) (are_same (mark_payload which) payload same, small)
    by_test false other told = absurd (cc told)

told_only : (payload : List ℕ) (t : Entries) (w : DataId) → mark_told payload t ≡ Some w → Spells payload w
told_only payload t w is = by_id (number_under t 0 (codes "ID")) (under_fits _) (number_under t 1 (codes "RUN")) (under_fits _) is
  where
    by_run : (id : ℕ) → id < 2 ^ 32 → (run : Option ℕ) → IfSome run (λ n. n < 2 ^ 32) → option_and_then (λ r. let v : DataId = record { id = id; run = r } in mark_spelled payload v) run ≡ Some w → Spells payload w
    by_run id low None few told = absurd (cc told)
    by_run id low (Some run) few told = spelled_only payload (record { id = id; run = run }) w (low, few) told

    by_id : (id : Option ℕ) → IfSome id (λ n. n < 2 ^ 32) → (run : Option ℕ) → IfSome run (λ n. n < 2 ^ 32) → option_and_then (λ i. option_and_then (λ r. let v : DataId = record { id = i; run = r } in mark_spelled payload v) run) id ≡ Some w → Spells payload w
    by_id None low run few told = absurd (cc told)
    by_id (Some id) low run few told = by_run id low run few told

-- ## What the tree of a payload tells

pub mark_read : (payload : List ℕ) (t : Entries) (o : Option DataId) → all_of payload ≡ Ok t → IsEncoding t payload → IfSome o (λ w. t ≡ mark_tree w) → IfSome o IsSmall → (IsNone o → (w : DataId) → IsSmall w → t ≢ mark_tree w) → o ≡ mark_of payload
unfolding mark_payload Spells
mark_read payload t (Some w) reads coded spelled small none =
    let is : payload ≡ mark_payload w = coded.spelled ∙ ap Rattle.kvtree.specs.Encoding.encoding spelled in
    sym (ap mark_of is ∙ mark_again w small)
mark_read payload t None reads coded spelled small none = sym (ap (mark_by payload) reads ∙ by_told (mark_told payload t) refl)
  where
    by_told : (o : Option DataId) → mark_told payload t ≡ o → o ≡ None
    by_told None is = refl
    by_told (Some w) is =
        let spells = told_only payload t w is in
        let again : all_of payload ≡ Ok (mark_tree w) = ap all_of (sym spells.0) ∙ all_again (mark_payload w) (mark_tree w) (mark_is w spells.1.0 spells.1.1) in
        absurd (none refl w spells.1 (ok_same t (mark_tree w) (sym reads ∙ again)))

pub mark_unread : (payload : List ℕ) (fault : TreeError) → all_of payload ≡ Err fault → mark_of payload ≡ None
mark_unread payload fault reads = ap (mark_by payload) reads
