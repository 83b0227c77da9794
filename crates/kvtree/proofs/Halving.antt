-- Keys that ascend are found by halving.
use Rattle.std.proofs.Common.{◌≡◌, ℕ, zero, suc, ◌<◌, ◌≤◌, true, false, List, [], ◌∷◌, inl, inr, length, None, refl, ap, ◌∙◌, arith}
use Rattle.std.specs.Ordering.{is_lt, ordering_reverse}
use Rattle.std.specs.declared.cmp.Ordering.{Ordering}
use Rattle.std.specs.declared.cmp.Ordering.TheVariants.{Less, Equal, Greater}
use Rattle.std.proofs.lemmas.Cmp.{nat_list_cmp_total}
use Rattle.kvtree.specs.Entries.{Entries, none, entry, key_order, AreAbove}
use Rattle.kvtree.specs.Lookup.{get, entry_under}
use Rattle.kvtree.specs.Children.{entries_of}
use Rattle.kvtree.specs.Places.{place_in, below_at}
use Rattle.kvtree.specs.declared.tree.Child.{Child}
use Rattle.kvtree.proofs.Puts.{tell, place_in-le}

less_of : (o : Ordering) → is_lt o ≡ true → o ≡ Less
less_of Less e = refl
less_of Equal e = absurd cc
less_of Greater e = absurd cc

-- what is above a later key is above the last one
above_too : (last : List ℕ) (cs : List Child) (i : ℕ) (key : List ℕ) → AreAbove last (entries_of cs) → below_at cs i key ≡ true → key_order last key ≡ Less
above_too last [] i key above is = absurd cc
above_too last (c ∷ cs) zero key above is = nat_list_cmp_total.trans last c.key key above.1 (less_of (key_order c.key key) is)
above_too last (c ∷ cs) (suc i) key above is = nat_list_cmp_total.trans last c.key key above.1 (above_too c.key cs i key above.4 is)

past : (last : List ℕ) (cs : List Child) (i : ℕ) (key : List ℕ) → AreAbove last (entries_of cs) → below_at cs i key ≡ true → i < place_in cs key
past last [] i key above is = absurd cc
past last (c ∷ cs) zero key above is = rw (less_of (key_order c.key key) is) (omega arith)
past last (c ∷ cs) (suc i) key above is = rw (above_too c.key cs i key above.4 is) (omega (arith, past c.key cs i key above.4 is))

pub place_past : (cs : List Child) (i : ℕ) (key : List ℕ) → AreAbove [] (entries_of cs) → below_at cs i key ≡ true → i < place_in cs key
place_past cs i key above is = past [] cs i key above is

pub place_up_to : (cs : List Child) (i : ℕ) (key : List ℕ) → i < length cs → below_at cs i key ≡ false → place_in cs key ≤ i
place_up_to [] i key lt is = absurd (omega arith)
place_up_to (c ∷ cs) zero key lt is =
    elim (tell (key_order c.key key)) [
      | inl o ↦ let no : true ≡ false = rw o at is in absurd cc
      | inr (inl o) ↦ rw o (omega arith)
      | inr (inr o) ↦ rw o (omega arith)
    ]
place_up_to (c ∷ cs) (suc i) key lt is =
    elim (tell (key_order c.key key)) [
      | inl o ↦ rw o (omega (arith, place_up_to cs i key (omega arith) is))
      | inr (inl o) ↦ rw o (omega arith)
      | inr (inr o) ↦ rw o (omega arith)
    ]

-- ---- the tree under a key

nothing_under : (last : List ℕ) (t : Entries) (key : List ℕ) → AreAbove last t → ((k : List ℕ) → key_order last k ≡ Less → key_order k key ≡ Greater) → get t key ≡ None
nothing_under last none key above far = refl
nothing_under last (entry k c r) key above far = rw (far k above.1) (nothing_under k r key above.4 (λ m less. far m (nat_list_cmp_total.trans last k m above.1 less)))

turned_back : (a b : List ℕ) → key_order a b ≡ Less → key_order b a ≡ Greater
turned_back a b e = nat_list_cmp_total.antisymm b a ∙ ap ordering_reverse e

turned : (a b : List ℕ) → key_order a b ≡ Greater → key_order b a ≡ Less
turned a b e = nat_list_cmp_total.antisymm b a ∙ ap ordering_reverse e

under : (last : List ℕ) (cs : List Child) (key : List ℕ) → AreAbove last (entries_of cs) → entry_under (entries_of cs) (place_in cs key) key ≡ get (entries_of cs) key
under last [] key above = refl
under last (c ∷ cs) key above =
    elim (tell (key_order c.key key)) [
      | inl o ↦ rw o (under c.key cs key above.4)
      | inr (inl o) ↦ rw o (rw o refl)
      | inr (inr o) ↦
          let nothing : get (entries_of cs) key ≡ None = nothing_under c.key (entries_of cs) key above.4 (λ k less. turned_back key k (nat_list_cmp_total.trans key c.key k (turned c.key key o) less)) in
          rw o (rw (o, nothing) refl)
    ]

pub under_place : (cs : List Child) (key : List ℕ) → AreAbove [] (entries_of cs) → entry_under (entries_of cs) (place_in cs key) key ≡ get (entries_of cs) key
under_place cs key above = under [] cs key above

pub ruleset halving_laws = (place_past, place_up_to, place_in-le, under_place)
