-- A tree is known by the keys at its places, and by how many there are.
use Rattle.std.proofs.Common.{◌≡◌, ℕ, suc, List, Some, None, refl, sym, ap, ◌∙◌, arith}
use Rattle.std.specs.declared.cmp.Ordering.{Ordering}
use Rattle.std.specs.declared.cmp.Ordering.TheVariants.{Less, Equal, Greater}
use Rattle.kvtree.specs.Entries.{Entries, none, entry, width, key_order}
use Rattle.kvtree.specs.Lookup.{by_order, entry_under}
use Rattle.kvtree.proofs.Puts.{key_is}

-- the entries after the first
abbrev pub rest_of : Entries → Entries
rest_of none = none
rest_of (entry key child rest) = rest

equal_only : {A : Type 0} (o : Ordering) (x y : A) → by_order o None (Some x) None ≡ Some y → (o ≡ Equal) × (x ≡ y)
equal_only Less x y e = absurd cc
equal_only Equal x y e = (refl, cc)
equal_only Greater x y e = absurd cc

-- the first entry, and those after it
pub opened : (t : Entries) (key : List ℕ) (child : Entries) → entry_under t 0 key ≡ Some child → t ≡ entry key child (rest_of t)
opened none key child e = absurd cc
opened (entry k c r) key child e =
    let found = equal_only (key_order k key) c child e in
    ap (λ (x : List ℕ). entry x c r) (key_is k key found.0) ∙ ap (λ (x : Entries). entry key x r) found.1

pub entry_under-rest_of : (t : Entries) (at : ℕ) (key : List ℕ) → entry_under t (suc at) key ≡ entry_under (rest_of t) at key
entry_under-rest_of none at key = refl
entry_under-rest_of (entry k c r) at key = refl

no_entries : (t : Entries) → width t ≡ 0 → t ≡ none
no_entries none e = refl
no_entries (entry k c r) e = absurd (omega arith)

one_less : (t : Entries) (n : ℕ) → width t ≡ suc n → width (rest_of t) ≡ n
one_less none n e = absurd (omega arith)
one_less (entry k c r) n e = omega arith

pub one_entry : (t : Entries) (a : List ℕ) (x : Entries) → entry_under t 0 a ≡ Some x → width t ≡ 1 → t ≡ entry a x none
one_entry t a x first one = opened t a x first ∙ ap (entry a x) (no_entries (rest_of t) (one_less t 0 one))

pub two_entries : (t : Entries) (a b : List ℕ) (x y : Entries) → entry_under t 0 a ≡ Some x → entry_under t 1 b ≡ Some y → width t ≡ 2 → t ≡ entry a x (entry b y none)
two_entries t a b x y first second two =
    opened t a x first ∙ ap (entry a x) (one_entry (rest_of t) b y (sym (entry_under-rest_of t 0 b) ∙ second) (one_less t 1 two))

pub three_entries : (t : Entries) (a b c : List ℕ) (x y z : Entries) → entry_under t 0 a ≡ Some x → entry_under t 1 b ≡ Some y → entry_under t 2 c ≡ Some z → width t ≡ 3
    → t ≡ entry a x (entry b y (entry c z none))
three_entries t a b c x y z first second third three =
    opened t a x first ∙ ap (entry a x) (two_entries (rest_of t) b c y z (sym (entry_under-rest_of t 0 b) ∙ second) (sym (entry_under-rest_of t 1 c) ∙ third) (one_less t 2 three))

pub four_entries : (t : Entries) (a b c d : List ℕ) (x y z w : Entries) → entry_under t 0 a ≡ Some x → entry_under t 1 b ≡ Some y → entry_under t 2 c ≡ Some z → entry_under t 3 d ≡ Some w → width t ≡ 4
    → t ≡ entry a x (entry b y (entry c z (entry d w none)))
four_entries t a b c d x y z w first second third fourth four =
    opened t a x first
    ∙ ap (entry a x) (three_entries (rest_of t) b c d y z w (sym (entry_under-rest_of t 0 b) ∙ second) (sym (entry_under-rest_of t 1 c) ∙ third) (sym (entry_under-rest_of t 2 d) ∙ fourth) (one_less t 3 four))
