-- What was seen so far, with one record more.
use Rattle.std.proofs.Common.{◌≡◌, ◌⊎◌, inl, inr, ◌<◌, ◌≤◌, ℕ, Bool, true, false, List, [], ◌∷◌, ◌++◌, Some, length, map, replicate, get_or, refl, sym, ◌∙◌, ap, subst, arith, slice_get}
use Rattle.std.specs.Prelude.{insert, slice_set, Contains, ◌||◌}
use Rattle.std.proofs.lemmas.Bool.{cases_eq}
use Rattle.std.proofs.lemmas.List.{length-set, get_or-set_same, get_or-set_other, get_or-replicate, length-replicate, append_assoc}
use Rattle.std.proofs.lemmas.Option.{get_or_from_slice_get}
use Rattle.std.proofs.lemmas.List.Elements.{Contains-push, Contains-append_left, Contains-push_cases}
use Rattle.scr_base.specs.declared.shape.DataId.{DataId}
use Rattle.member_store.specs.declared.member.Member.{Member}
use Rattle.recover_core.specs.Seen.{AreRising, IsPlaceOf, is_marked, marked, set_of, IsThere, MarksOne, PutsOne, TakesMember, IsWholeOf, IsMarkedBy, IsSeen, AreSeen, AreOfNodes}
use Rattle.recover_core.specs.declared.seen.SeenSet.{SeenSet}
use Rattle.recover_core.proofs.Order.{kept, put_there, from, from_set, set_there, set_other, rising_put, none_there, apart}

-- ## One record more

grown : (all : List Member) (m : Member) (which : DataId) (w : Member) → IsWholeOf all which w → IsWholeOf (all ++ m ∷ []) which w
grown all m which w is = record { known = Contains-append_left all (m ∷ []) w is.known; whole = is.whole; which_is = is.which_is }

its_own : (all : List Member) (m : Member) (which : DataId) → m.whole ≡ true → m.desc.which ≡ which → IsWholeOf (all ++ m ∷ []) which m
its_own all m which whole same = record { known = Contains-push all m; whole = whole; which_is = same }

was : (all : List Member) (m : Member) (which : DataId) (w : Member) → IsWholeOf (all ++ m ∷ []) which w → IsWholeOf all which w ⊎ (m ≡ w)
was all m which w is = pick (Contains-push_cases all m w is.known) where
  pick : Contains all w ⊎ (m ≡ w) → IsWholeOf all which w ⊎ (m ≡ w)
  pick (inl old) = inl (record { known = old; whole = is.whole; which_is = is.which_is })
  pick (inr own) = inr own

-- a dataset that the record isn't of
beside : (nodes : ℕ) (all : List Member) (m : Member) (x : SeenSet) → (IsWholeOf (all ++ m ∷ []) x.desc.which m → ⊥) → IsSeen nodes all x → IsSeen nodes (all ++ m ∷ []) x
beside nodes all m x other seen = record {
  marks = record {
    long = seen.marks.long;
    there = λ node is. let w = seen.marks.there node is in (w.0, grown all m x.desc.which w.0 w.1, w.2);
    every = λ w is. seen.marks.every w (old w is (was all m x.desc.which w is));
    sealed = λ is. let w = seen.marks.sealed is in (w.0, grown all m x.desc.which w.0 w.1, w.2);
    seals = λ w is sealed. seen.marks.seals w (old w is (was all m x.desc.which w is)) sealed;
  };
  told = (seen.told.0, grown all m x.desc.which seen.told.0 seen.told.1, seen.told.2, seen.told.3);
}
  where
    old : (w : Member) → IsWholeOf (all ++ m ∷ []) x.desc.which w → IsWholeOf all x.desc.which w ⊎ (m ≡ w) → IsWholeOf all x.desc.which w
    old w is (inl it) = it
    old w is (inr own) = absurd (other (subst (IsWholeOf (all ++ m ∷ []) x.desc.which) (sym own) is))

-- ## A dataset that the record is of

mark_same : (there : List Bool) (node : ℕ) → node < length there → is_marked (slice_set there node true) node ≡ true
mark_same there node lt = get_or-set_same there node true false lt

mark_stays : (there : List Bool) (node other : ℕ) → node < length there → is_marked there other ≡ true → is_marked (slice_set there node true) other ≡ true
mark_stays there node other lt is = pick (cases_eq other node) where
  pick : (other ≡ node) ⊎ ((other ≡ node) → ⊥) → is_marked (slice_set there node true) other ≡ true
  pick (inl same) = ap (is_marked (slice_set there node true)) same ∙ mark_same there node lt
  pick (inr apart) = get_or-set_other there node other true false apart ∙ is

mark_was : (there : List Bool) (node other : ℕ) → is_marked (slice_set there node true) other ≡ true → (other ≡ node) ⊎ (is_marked there other ≡ true)
mark_was there node other is = pick (cases_eq other node) where
  pick : (other ≡ node) ⊎ ((other ≡ node) → ⊥) → (other ≡ node) ⊎ (is_marked there other ≡ true)
  pick (inl same) = inl same
  pick (inr apart) = inr (sym (get_or-set_other there node other true false apart) ∙ is)

either : (a b : Bool) → (a || b) ≡ true → (a ≡ true) ⊎ (b ≡ true)
either true b is = inl refl
either false b is = inr is

first_of : (a b : Bool) → a ≡ true → (a || b) ≡ true
first_of true b is = refl
first_of false b is = absurd (cc is)

second_of : (a b : Bool) → b ≡ true → (a || b) ≡ true
second_of true b is = refl
second_of false b is = is

marks_more : (nodes : ℕ) (all : List Member) (m : Member) (x : SeenSet) → m.whole ≡ true → m.desc.which ≡ x.desc.which → m.node < nodes → IsMarkedBy nodes all x → IsMarkedBy nodes (all ++ m ∷ []) (marked m x)
marks_more nodes all m x whole same low marks = record {
  long = length-set x.there m.node true ∙ marks.long;
  there = λ node is. there node (mark_was x.there m.node node is);
  every = λ w is. every w (was all m x.desc.which w is);
  sealed = λ is. sealed (either x.sealed m.sealed is);
  seals = λ w is its. seals w its (was all m x.desc.which w is);
}
  where
    in_length : m.node < length x.there
    in_length = omega (arith, low, marks.long)

    there : (node : ℕ) → (node ≡ m.node) ⊎ (is_marked x.there node ≡ true) → (w : Member) × IsWholeOf (all ++ m ∷ []) x.desc.which w × (w.node ≡ node)
    there node (inl here) = (m, its_own all m x.desc.which whole same, sym here)
    there node (inr old) = let w = marks.there node old in (w.0, grown all m x.desc.which w.0 w.1, w.2)

    every : (w : Member) → IsWholeOf all x.desc.which w ⊎ (m ≡ w) → is_marked (slice_set x.there m.node true) w.node ≡ true
    every w (inl old) = mark_stays x.there m.node w.node in_length (marks.every w old)
    every w (inr own) = subst (λ (v : Member). is_marked (slice_set x.there m.node true) v.node ≡ true) own (mark_same x.there m.node in_length)

    sealed : (x.sealed ≡ true) ⊎ (m.sealed ≡ true) → (w : Member) × IsWholeOf (all ++ m ∷ []) x.desc.which w × (w.sealed ≡ true)
    sealed (inl old) = let w = marks.sealed old in (w.0, grown all m x.desc.which w.0 w.1, w.2)
    sealed (inr own) = (m, its_own all m x.desc.which whole same, own)

    seals : (w : Member) → w.sealed ≡ true → IsWholeOf all x.desc.which w ⊎ (m ≡ w) → (x.sealed || m.sealed) ≡ true
    seals w its (inl old) = first_of x.sealed m.sealed (marks.seals w old its)
    seals w its (inr own) = second_of x.sealed m.sealed (ap (λ (v : Member). v.sealed) own ∙ its)

more_of_it : (nodes : ℕ) (all : List Member) (m : Member) (x : SeenSet) → m.whole ≡ true → m.desc.which ≡ x.desc.which → m.node < nodes → IsSeen nodes all x → IsSeen nodes (all ++ m ∷ []) (marked m x)
more_of_it nodes all m x whole same low seen = record {
  marks = marks_more nodes all m x whole same low seen.marks;
  told = (seen.told.0, grown all m x.desc.which seen.told.0 seen.told.1, seen.told.2, seen.told.3);
}

-- of a dataset that no record was of nothing is marked
nothing_marked : (nodes : ℕ) (all : List Member) (m : Member) → ((w : Member) → IsWholeOf all m.desc.which w → ⊥) → IsMarkedBy nodes all (set_of nodes m)
nothing_marked nodes all m none = record {
  long = length-replicate nodes false;
  there = λ node is. absurd (unmarked node is);
  every = λ w is. absurd (none w is);
  sealed = λ is. absurd (cc is);
  seals = λ w is its. absurd (none w is);
}
  where
    split : (u v : ℕ) → (u < v) ⊎ (v ≤ u)
    split u v = grind arith

    unmarked : (node : ℕ) → is_marked (replicate nodes false) node ≡ true → ⊥
    unmarked node is = pick (split node nodes) where
      pick : (node < nodes) ⊎ (nodes ≤ node) → ⊥
      pick (inl lt) = cc (is, get_or-replicate nodes node false false lt)
      pick (inr le) = cc (is, Rattle.std.proofs.lemmas.List.get_or_past (replicate nodes false) node false (omega (arith, le, length-replicate {A = Bool} nodes false)))

first_of_it : (nodes : ℕ) (all : List Member) (m : Member) → m.whole ≡ true → m.node < nodes → ((w : Member) → IsWholeOf all m.desc.which w → ⊥) → IsSeen nodes (all ++ m ∷ []) (marked m (set_of nodes m))
first_of_it nodes all m whole low none = record {
  marks = marks_more nodes all m (set_of nodes m) whole refl low (nothing_marked nodes all m none);
  told = (m, its_own all m m.desc.which whole refl, refl, refl);
}

-- ## All datasets

-- a member that isn't whole tells nothing
not_whole : (nodes : ℕ) (all : List Member) (m : Member) (sets : List SeenSet) → m.whole ≡ false → AreSeen nodes all sets → AreSeen nodes (all ++ m ∷ []) sets
not_whole nodes all m sets not seen = record {
  rising = seen.rising;
  each = λ i x at. beside nodes all m x (λ is. absurd (cc (is.whole, not))) (seen.each i x at);
  every = λ w known whole. pick w whole (Contains-push_cases all m w known);
}
  where
    pick : (w : Member) → w.whole ≡ true → Contains all w ⊎ (m ≡ w) → (i : ℕ) × (x : SeenSet) × (slice_get sets i ≡ Some x) × (x.desc.which ≡ w.desc.which)
    pick w whole (inl old) = seen.every w old whole
    pick w whole (inr own) = absurd (let same : m.whole ≡ w.whole = ap (λ (v : Member). v.whole) own in cc (same, whole, not))

marks_one : (nodes : ℕ) (all : List Member) (m : Member) (old new : List SeenSet) → m.whole ≡ true → m.node < nodes → MarksOne m old new → AreSeen nodes all old → AreSeen nodes (all ++ m ∷ []) new
marks_one nodes all m old new whole low marks seen = subst (AreSeen nodes (all ++ m ∷ [])) (sym marks.is) (record {
  rising = λ i j x y lt ix jy. let a = same_place i x (from_set old marks.place (marked m marks.set) i x ix) in let b = same_place j y (from_set old marks.place (marked m marks.set) j y jy) in
      subst (λ (d : DataId). Rattle.recover_core.specs.Seen.IsEarlier d y.desc.which) a.2 (subst (λ (d : DataId). Rattle.recover_core.specs.Seen.IsEarlier a.0.desc.which d) b.2 (seen.rising i j a.0 b.0 lt a.1 b.1));
  each = λ i x at. one i x (from_set old marks.place (marked m marks.set) i x at);
  every = λ w known whole. pick w whole (Contains-push_cases all m w known);
})
  where
    same_place : (i : ℕ) (x : SeenSet) → ((i ≡ marks.place) × (marked m marks.set ≡ x)) ⊎ (((i ≡ marks.place) → ⊥) × (slice_get old i ≡ Some x)) → (z : SeenSet) × (slice_get old i ≡ Some z) × (z.desc.which ≡ x.desc.which)
    same_place i x (inl here) = (marks.set, ap (slice_get old) here.0 ∙ marks.at, ap (λ (v : SeenSet). v.desc.which) here.1)
    same_place i x (inr other) = (x, other.1, refl)

    one : (i : ℕ) (x : SeenSet) → ((i ≡ marks.place) × (marked m marks.set ≡ x)) ⊎ (((i ≡ marks.place) → ⊥) × (slice_get old i ≡ Some x)) → IsSeen nodes (all ++ m ∷ []) x
    one i x (inl here) = subst (IsSeen nodes (all ++ m ∷ [])) here.1 (more_of_it nodes all m marks.set whole (sym marks.which) low (seen.each marks.place marks.set marks.at))
    one i x (inr other) = beside nodes all m x (λ is. apart old seen.rising i marks.place x marks.set other.1 marks.at other.0 (sym is.which_is ∙ sym marks.which)) (seen.each i x other.1)

    Stands : Member → Type 0
    Stands w = (i : ℕ) × (x : SeenSet) × (slice_get (slice_set old marks.place (marked m marks.set)) i ≡ Some x) × (x.desc.which ≡ w.desc.which)

    stays : (w : Member) → (i : ℕ) (x : SeenSet) → slice_get old i ≡ Some x → x.desc.which ≡ w.desc.which → Stands w
    stays w i x at same = place (cases_eq i marks.place) where
      place : (i ≡ marks.place) ⊎ ((i ≡ marks.place) → ⊥) → Stands w
      place (inl here) =
          let its : marks.set ≡ x = Rattle.recover_core.proofs.Order.some_same marks.set x (sym marks.at ∙ ap (slice_get old) (sym here) ∙ at) in
          (marks.place, marked m marks.set, set_there old marks.place (marked m marks.set) marks.set marks.at, ap (λ (v : SeenSet). v.desc.which) its ∙ same)
      place (inr other) = (i, x, set_other old marks.place (marked m marks.set) i x other at, same)

    pick : (w : Member) → w.whole ≡ true → Contains all w ⊎ (m ≡ w) → Stands w
    pick w whole (inl known) = let e = seen.every w known whole in stays w e.0 e.1 e.2 e.3
    pick w whole (inr own) = (marks.place, marked m marks.set, set_there old marks.place (marked m marks.set) marks.set marks.at, marks.which ∙ ap (λ (v : Member). v.desc.which) own)

puts_one : (nodes : ℕ) (all : List Member) (m : Member) (old new : List SeenSet) → m.whole ≡ true → m.node < nodes → PutsOne nodes m old new → AreSeen nodes all old → AreSeen nodes (all ++ m ∷ []) new
puts_one nodes all m old new whole low puts seen = subst (AreSeen nodes (all ++ m ∷ [])) (sym puts.is) (record {
  rising = rising_put old puts.place (marked m (set_of nodes m)) seen.rising puts.is_place puts.other;
  each = λ i x at. one i x (from old puts.place (marked m (set_of nodes m)) i x puts.is_place.within at);
  every = λ w known whole. pick w whole (Contains-push_cases all m w known);
})
  where
    fresh : (i : ℕ) (x : SeenSet) → slice_get old i ≡ Some x → x.desc.which ≡ m.desc.which → ⊥
    fresh = none_there old puts.place m.desc.which seen.rising puts.is_place puts.other

    none : (w : Member) → IsWholeOf all m.desc.which w → ⊥
    none w is = let e = seen.every w is.known is.whole in fresh e.0 e.1 e.2 (e.3 ∙ is.which_is)

    one : (i : ℕ) (x : SeenSet) → (marked m (set_of nodes m) ≡ x) ⊎ ((j : ℕ) × (slice_get old j ≡ Some x)) → IsSeen nodes (all ++ m ∷ []) x
    one i x (inl own) = subst (IsSeen nodes (all ++ m ∷ [])) own (first_of_it nodes all m whole low none)
    one i x (inr it) = beside nodes all m x (λ is. fresh it.0 x it.1 (sym is.which_is)) (seen.each it.0 x it.1)

    pick : (w : Member) → w.whole ≡ true → Contains all w ⊎ (m ≡ w) → (i : ℕ) × (x : SeenSet) × (slice_get (insert old puts.place (marked m (set_of nodes m))) i ≡ Some x) × (x.desc.which ≡ w.desc.which)
    pick w whole (inl known) = let e = seen.every w known whole in let k = kept old puts.place (marked m (set_of nodes m)) e.0 e.1 e.2 in (k.0, e.1, k.1, e.3)
    pick w whole (inr own) = (puts.place, marked m (set_of nodes m), put_there old puts.place (marked m (set_of nodes m)) puts.is_place.within, ap (λ (v : Member). v.desc.which) own)

pub taken : (nodes : ℕ) (all : List Member) (m : Member) (old new : List SeenSet) → m.node < nodes → TakesMember nodes m old new → AreSeen nodes all old → AreSeen nodes (all ++ m ∷ []) new
taken nodes all m old new low takes seen = pick m.whole refl where
  taken_up : m.whole ≡ true → MarksOne m old new ⊎ PutsOne nodes m old new → AreSeen nodes (all ++ m ∷ []) new
  taken_up whole (inl marks) = marks_one nodes all m old new whole low marks seen
  taken_up whole (inr puts) = puts_one nodes all m old new whole low puts seen

  pick : (b : Bool) → m.whole ≡ b → AreSeen nodes (all ++ m ∷ []) new
  pick true whole = taken_up whole (takes.1 whole)
  pick false not = subst (AreSeen nodes (all ++ m ∷ [])) (sym (takes.0 not)) (not_whole nodes all m old not seen)

-- before the first record nothing is seen
pub none_seen : (nodes : ℕ) → AreSeen nodes [] []
none_seen nodes = record {
  rising = λ i j x y lt ix jy. absurd (cc ix);
  each = λ i x at. absurd (cc at);
  every = λ w known whole. absurd (omega (arith, known.1));
}

-- ## The code

pub marks_at : (m : Member) (sets seen : List SeenSet) (place : ℕ) (b : Bool) → IsThere seen place m.desc.which b → b ≡ true → seen ≡ sets → (x new : SeenSet) → x ≡ get_or sets place x → new ≡ marked m x → MarksOne m sets (slice_set sets place new)
marks_at m sets seen place false there is same x new at marks = absurd (cc is)
marks_at m sets seen place true there is same x new at marks =
    let here : slice_get sets place ≡ Some there.0 = ap (λ (l : List SeenSet). slice_get l place) (sym same) ∙ there.1 in
    let one : x ≡ there.0 = at ∙ get_or_from_slice_get sets place there.0 x here in
    record { place = place; set = there.0; at = here; which = there.2; is = ap (slice_set sets place) (marks ∙ ap (marked m) one) }

pub puts_at : (nodes : ℕ) (m : Member) (sets seen at after : List SeenSet) (place : ℕ) (b : Bool) → IsThere seen place m.desc.which b → b ≡ false → seen ≡ sets → IsPlaceOf at m.desc.which place → at ≡ sets → (new : SeenSet) → new ≡ marked m (set_of nodes m) → after ≡ insert sets place new → PutsOne nodes m sets after
puts_at nodes m sets seen at after place true there is same place_is here new marks put = absurd (cc is)
puts_at nodes m sets seen at after place false there is same place_is here new marks put = record {
  place = place;
  is_place = subst (λ (l : List SeenSet). IsPlaceOf l m.desc.which place) here place_is;
  other = λ x x_at. there x (ap (λ (l : List SeenSet). slice_get l place) same ∙ x_at);
  is = put ∙ ap (insert sets place) marks;
}

-- a member after those before
pub next_taken : (nodes : ℕ) (all before : List Member) (m : Member) (old new : List SeenSet) → (AreRising old → TakesMember nodes m old new) → AreOfNodes nodes (before ++ m ∷ []) → (AreOfNodes nodes before → AreSeen nodes (all ++ before) old) → AreSeen nodes (all ++ (before ++ m ∷ [])) new
next_taken nodes all before m old new takes of_nodes seen =
    let was = seen (λ x known. of_nodes x (Contains-append_left before (m ∷ []) x known)) in
    subst (λ (l : List Member). AreSeen nodes l new) (append_assoc all before (m ∷ [])) (taken nodes (all ++ before) m old new (of_nodes m (Contains-push before m)) (takes was.rising) was)

pub map_same : {A : Type 0} (xs : List A) → map (λ y. y) xs ≡ xs
map_same [] = refl
map_same (x ∷ xs) = ap (λ ys. x ∷ ys) (map_same xs)
