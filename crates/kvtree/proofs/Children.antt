-- Children as a list, and the entries that they are.
use Rattle.std.proofs.Common.{◌≡◌, ℕ, zero, suc, ◌+◌, ◌<◌, ◌≤◌, List, [], ◌∷◌, ◌++◌, length, get_or, drop, refl, ap, ◌∙◌, arith, add-one, drop-cons, append_assoc}
use Rattle.kvtree.specs.Entries.{Entries, none, entry, width, key_order, IsKey, AreAbove}
use Rattle.std.specs.Int.{w32, to_be_bytes}
use Rattle.std.specs.Option.{option_map}
use Rattle.std.specs.Prelude.{Option, Some, None, slice_get}
use Rattle.kvtree.specs.Lookup.{by_order, entry_at, entry_under}
use Rattle.kvtree.specs.Encoding.{children_bytes, encoding}
use Rattle.kvtree.specs.Children.{entries_of}
use Rattle.kvtree.specs.declared.tree.Child.{Child}

pub width-entries_of : (cs : List Child) → width (entries_of cs) ≡ length cs
width-entries_of [] = refl
width-entries_of (c ∷ cs) = omega (arith, width-entries_of cs)

-- the entries of one tree and then those of another
abbrev pub append : Entries → Entries → Entries
append none more = more
append (entry key child rest) more = entry key child (append rest more)

pub append-none : (t : Entries) → append t none ≡ t
append-none none = refl
append-none (entry key child rest) = ap (entry key child) (append-none rest)

pub append-push : (cs : List Child) (c : Child) (more : Entries) → append (entries_of (cs ++ c ∷ [])) more ≡ append (entries_of cs) (entry c.key c.tree more)
append-push [] c more = refl
append-push (d ∷ cs) c more = ap (entry d.key d.tree) (append-push cs c more)

-- the child at i, and those after it
pub entries_of-drop : (cs : List Child) (i : ℕ) (c : Child) → i < length cs → c ≡ get_or cs i c → entries_of (drop i cs) ≡ entry c.key c.tree (entries_of (drop (i + 1) cs))
entries_of-drop cs i c lt is = ap entries_of (drop-cons cs i c lt) ∙ rw (← is, add-one) refl

pub entries_of-end : (cs : List Child) (i : ℕ) → length cs ≤ i → entries_of (drop i cs) ≡ none
entries_of-end [] zero le = refl
entries_of-end [] (suc i) le = refl
entries_of-end (c ∷ cs) zero le = absurd (omega arith)
entries_of-end (c ∷ cs) (suc i) le = entries_of-end cs i (omega arith)

-- each key of a tree is a key
pub key_fits : (last : List ℕ) (cs : List Child) (i : ℕ) (c : Child) → AreAbove last (entries_of cs) → i < length cs → c ≡ get_or cs i c → IsKey c.key
key_fits last [] i c above lt is = absurd (omega arith)
key_fits last (d ∷ cs) zero c above lt is = rw is above.0
key_fits last (d ∷ cs) (suc i) c above lt is = key_fits d.key cs i c above.4 (omega arith) is

-- the number of children, and then the children, are the encoding
pub encoding-entries_of : (out : List ℕ) (n : ℕ) (cs : List Child) → n ≡ length cs → (out ++ to_be_bytes w32 n) ++ children_bytes (entries_of cs) ≡ out ++ encoding (entries_of cs)
encoding-entries_of out n cs is = rw (width-entries_of, is) (append_assoc out (to_be_bytes w32 (length cs)) (children_bytes (entries_of cs)))

-- the tree of a child that has this key
abbrev pub child_with : Option Child → List ℕ → Option Entries
child_with None key = None
child_with (Some c) key = by_order (key_order c.key key) None (Some c.tree) None

-- what stands at a place
pub entry_at-entries_of : (cs : List Child) (at : ℕ) → entry_at (entries_of cs) at ≡ option_map (λ c. (c.key, c.tree)) (slice_get cs at)
entry_at-entries_of [] at = refl
entry_at-entries_of (c ∷ cs) zero = refl
entry_at-entries_of (c ∷ cs) (suc at) = entry_at-entries_of cs at

-- and under a key
pub entry_under-entries_of : (cs : List Child) (at : ℕ) (key : List ℕ) → entry_under (entries_of cs) at key ≡ child_with (slice_get cs at) key
entry_under-entries_of [] at key = refl
entry_under-entries_of (c ∷ cs) zero key = refl
entry_under-entries_of (c ∷ cs) (suc at) key = entry_under-entries_of cs at key

pub ruleset child_laws = (entry_at-entries_of, entry_under-entries_of, width-entries_of, append-none, append-push, entries_of-drop, entries_of-end, key_fits)
