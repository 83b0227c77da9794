-- A stop that leaves the files by turns.
use Rattle.std.proofs.Common.{◌≡◌, ◌≢◌, ◌⊎◌, inl, inr, ◌<◌, ℕ, zero, suc, Bool, true, false, cond, ◌||◌, not, List, [], ◌∷◌, map, length, take, get_or, Option, None, refl, sym, ◌∙◌, ap, subst, arith}
use Rattle.std.specs.Prelude.{IsSome, Contains}
use Rattle.std.specs.Option.{option_map}
use Rattle.std.specs.Str.{bytes_eq}
use Rattle.std.specs.Cmp.Lexicographic.{slice_cmp}
use Rattle.std.specs.Ordering.{nat_cmp}
use Rattle.std.specs.declared.cmp.Ordering.TheVariants.{Less}
use Rattle.std.proofs.lemmas.List.{length-map, get_or_default}
use Rattle.node_device.specs.File.{File, no_file}
use Rattle.node_device.specs.Held.{present, left_by, scrambled}
use Rattle.node_device.specs.Entry.{entry_file, entry_name}
use Rattle.node_device.specs.DeviceState.{IsAscending}
use Rattle.node_device.specs.Entries.{file_at, name_at, turn_behind, outcome_for, IsStopOf}
use Rattle.node_device.specs.EntryLists.{same_name_or_not, bytes_eq_same, bytes_eq_other, below_other, file_at_each, tail_ascending, step_in, later_in, first_in, cons_ascending, either_ascending}
use Rattle.node_device.specs.Picks.{turns_of, AreKnown}
use Rattle.node_device.specs.declared.entry.Entry.{Entry}
use Rattle.node_device.specs.declared.outcome.Outcome.{Outcome}
use Rattle.node_device.specs.declared.outcome.Outcome.TheVariants.{AsRead, AsStable, Scrambled}

-- the names of the files that are there or were
abbrev known_of : List Entry → List (List ℕ)
known_of [] = []
known_of (e ∷ es) = cond (e.there || e.was_there) (entry_name e ∷ known_of es) (known_of es)

known_entry : (es : List Entry) (q : List ℕ) → Contains (known_of es) q → (j : ℕ) × (j < length es) × (name_at es j ≡ q)
known_entry [] q (k, lt, at) = absurd (omega arith)
known_entry (e ∷ es) q has = elim (step_in (e.there || e.was_there) (entry_name e) (known_of es) q has) [
  | inl here ↦ (zero, omega arith, here.1)
  | inr later ↦ let found = known_entry es q later in (suc found.0, omega (arith, found.1), found.2)
]

-- a name that comes later is another
known_other : (e : Entry) (es : List Entry) → IsAscending (map entry_name (e ∷ es)) → (k : ℕ) → k < length (known_of es) → slice_cmp nat_cmp (entry_name e) (get_or (known_of es) k []) ≡ Less
known_other e es asc k lt =
    let found = known_entry es (get_or (known_of es) k []) (k, lt, get_or_default (known_of es) k (get_or (known_of es) k []) [] lt) in
    ap (λ (n : List ℕ). slice_cmp nat_cmp (entry_name e) n) (sym found.2) ∙ asc zero (suc found.0) (omega arith) (omega (arith, found.1, length-map es entry_name))

known_ascending : (es : List Entry) → IsAscending (map entry_name es) → IsAscending (known_of es)
known_ascending [] asc = λ i j lt below. absurd (omega arith)
known_ascending (e ∷ es) asc =
    let rest = known_ascending es (tail_ascending (entry_name e) (map entry_name es) asc) in
    either_ascending (e.there || e.was_there) (entry_name e) (known_of es) (cons_ascending (entry_name e) (known_of es) (known_other e es asc) rest) rest

Known : File → Type 0
Known f = IsSome f.now ⊎ IsSome f.stable

known_file : (there was : Bool) (xs ys : List ℕ) → (there || was) ≡ true → IsSome (present there xs) ⊎ IsSome (present was ys)
known_file true was xs ys known = inl refl
known_file false true xs ys known = inr refl
known_file false false xs ys known = absurd (cc known)

file_known : (there was : Bool) (xs ys : List ℕ) → IsSome (present there xs) ⊎ IsSome (present was ys) → (there || was) ≡ true
file_known true was xs ys known = refl
file_known false true xs ys known = refl
file_known false false xs ys (inl some) = absurd (cc some)
file_known false false xs ys (inr some) = absurd (cc some)

to_known : (es : List Entry) → IsAscending (map entry_name es) → (q : List ℕ) → Contains (known_of es) q → IsSome (file_at es q).now ⊎ IsSome (file_at es q).stable
to_known [] asc q (k, lt, at) = absurd (omega arith)
to_known (e ∷ es) asc q has = elim (step_in (e.there || e.was_there) (entry_name e) (known_of es) q has) [
  | inl here ↦
      subst (λ (b : Bool). IsSome (cond b (entry_file e) (file_at es q)).now ⊎ IsSome (cond b (entry_file e) (file_at es q)).stable) (sym (bytes_eq_same (entry_name e) q here.1)) (known_file e.there e.was_there e.bytes.items _ here.0)
  | inr later ↦
      let found = known_entry es q later in
      let below = asc zero (suc found.0) (omega arith) (omega (arith, found.1, length-map es entry_name)) in
      subst (λ (b : Bool). IsSome (cond b (entry_file e) (file_at es q)).now ⊎ IsSome (cond b (entry_file e) (file_at es q)).stable)
      (sym (bytes_eq_other (entry_name e) q (λ same. below_other (entry_name e) (name_at es found.0) below (same ∙ sym found.2)))) (to_known es (tail_ascending (entry_name e) (map entry_name es) asc) q later)
]

from_known : (es : List Entry) (q : List ℕ) → IsSome (file_at es q).now ⊎ IsSome (file_at es q).stable → Contains (known_of es) q
from_known [] q (inl some) = absurd (cc some)
from_known [] q (inr some) = absurd (cc some)
from_known (e ∷ es) q some = elim (same_name_or_not (entry_name e) q) [
  | inl same ↦
      first_in (e.there || e.was_there) (entry_name e) (known_of es) q
      (file_known e.there e.was_there e.bytes.items _ (subst (λ (b : Bool). IsSome (cond b (entry_file e) (file_at es q)).now ⊎ IsSome (cond b (entry_file e) (file_at es q)).stable) same.0 some)) same.1
  | inr other ↦
      later_in (e.there || e.was_there) (entry_name e) (known_of es) q
      (from_known es q (subst (λ (b : Bool). IsSome (cond b (entry_file e) (file_at es q)).now ⊎ IsSome (cond b (entry_file e) (file_at es q)).stable) other.0 some))
]

are_known : (es : List Entry) → IsAscending (map entry_name es) → AreKnown (file_at es) (known_of es)
are_known es asc = record { ascending = known_ascending es asc; each = λ q. (to_known es asc q, from_known es q) }

-- turns that speak of the same files
turns_same : (odd : Bool) (names : List (List ℕ)) (f g : List ℕ → File) (q : List ℕ) → ((k : ℕ) → k < length names → f (get_or names k []) ≡ g (get_or names k [])) → turns_of odd names f q ≡ turns_of odd names g q
turns_same odd [] f g q same = refl
turns_same odd (n ∷ names) f g q same =
    ap (λ (h : File). cond (bytes_eq n q) (cond odd h.now h.stable) (turns_of (not odd) names f q)) (same zero (omega arith))
    ∙ ap (λ (o : Option (List ℕ)). cond (bytes_eq n q) (cond odd (g n).now (g n).stable) o) (turns_same (not odd) names f g q (λ k lt. same (suc k) (omega arith)))

turns_none : (odd : Bool) (names : List (List ℕ)) (f : List ℕ → File) (q : List ℕ) → ((k : ℕ) → k < length names → get_or names k [] ≢ q) → turns_of odd names f q ≡ None
turns_none odd [] f q none = refl
turns_none odd (n ∷ names) f q none =
    ap (λ b. cond b (cond odd (f n).now (f n).stable) (turns_of (not odd) names f q)) (bytes_eq_other n q (none zero (omega arith))) ∙ turns_none (not odd) names f q (λ k lt. none (suc k) (omega arith))

left_by_turn : (odd : Bool) (f : File) → left_by (outcome_for 3 odd) f ≡ cond odd f.now f.stable
left_by_turn true f = refl
left_by_turn false f = refl

left_none : (odd there was : Bool) (xs ys : List ℕ) → (there || was) ≡ false → cond odd (present there xs) (present was ys) ≡ None
left_none odd true was xs ys unknown = absurd (cc unknown)
left_none odd false true xs ys unknown = absurd (cc unknown)
left_none true false false xs ys unknown = refl
left_none false false false xs ys unknown = refl

-- the first entry, by whether it has a turn
first_turn : (known odd : Bool) (e : Entry) (es : List Entry) (q : List ℕ) (now : Option (List ℕ)) → (e.there || e.was_there) ≡ known → IsAscending (map entry_name (e ∷ es)) → entry_name e ≡ q → now ≡ cond odd (entry_file e).now (entry_file e).stable
    → now ≡ turns_of odd (cond known (entry_name e ∷ known_of es) (known_of es)) (file_at (e ∷ es)) q
first_turn true odd e es q now known asc same left =
    left ∙ sym (ap (λ b. cond b (cond odd (file_at (e ∷ es) (entry_name e)).now (file_at (e ∷ es) (entry_name e)).stable) (turns_of (not odd) (known_of es) (file_at (e ∷ es)) q)) (bytes_eq_same (entry_name e) q same)
    ∙ ap (λ b. cond odd (cond b (entry_file e) (file_at es (entry_name e))).now (cond b (entry_file e) (file_at es (entry_name e))).stable) (bytes_eq_same (entry_name e) (entry_name e) refl))
first_turn false odd e es q now known asc same left =
    left ∙ left_none odd e.there e.was_there e.bytes.items _ known ∙ sym (turns_none odd (known_of es) (file_at (e ∷ es)) q (λ k lt is. below_other (entry_name e) (get_or (known_of es) k []) (known_other e es asc k lt) (same ∙ sym is)))

-- the entries behind it
later_turns : (known odd : Bool) (e : Entry) (es : List Entry) (q : List ℕ) (now : Option (List ℕ)) → IsAscending (map entry_name (e ∷ es)) → entry_name e ≢ q → now ≡ turns_of (cond known (not odd) odd) (known_of es) (file_at es) q
    → now ≡ turns_of odd (cond known (entry_name e ∷ known_of es) (known_of es)) (file_at (e ∷ es)) q
later_turns true odd e es q now asc ne later =
    later ∙ turns_same (not odd) (known_of es) (file_at es) (file_at (e ∷ es)) q (λ k lt. sym (ap (λ b. cond b (entry_file e) (file_at es (get_or (known_of es) k []))) (bytes_eq_other (entry_name e) (get_or (known_of es) k []) (below_other _ _ (known_other e es asc k lt)))))
    ∙ sym (ap (λ b. cond b (cond odd (file_at (e ∷ es) (entry_name e)).now (file_at (e ∷ es) (entry_name e)).stable) (turns_of (not odd) (known_of es) (file_at (e ∷ es)) q)) (bytes_eq_other (entry_name e) q ne))
later_turns false odd e es q now asc ne later =
    later ∙ turns_same odd (known_of es) (file_at es) (file_at (e ∷ es)) q (λ k lt. sym (ap (λ b. cond b (entry_file e) (file_at es (get_or (known_of es) k []))) (bytes_eq_other (entry_name e) (get_or (known_of es) k []) (below_other _ _ (known_other e es asc k lt)))))

by_turns : (odd : Bool) (es fs : List Entry) → IsAscending (map entry_name es) → length fs ≡ length es → ((k : ℕ) (d : Entry) → k < length es → IsStopOf (outcome_for 3 (turn_behind odd (take k es))) (get_or es k d) (get_or fs k d))
    → (q : List ℕ) → (file_at fs q).now ≡ turns_of odd (known_of es) (file_at es) q
by_turns odd [] [] asc len each q = refl
by_turns odd [] (f ∷ fs) asc len each q = absurd (omega arith)
by_turns odd (e ∷ es) [] asc len each q = absurd (omega arith)
by_turns odd (e ∷ es) (f ∷ fs) asc len each q =
    let first : IsStopOf (outcome_for 3 odd) e f = each zero e (omega arith) in
    let known = e.there || e.was_there in
    elim (same_name_or_not (entry_name e) q) [
      | inl same ↦
          let now : (file_at (f ∷ fs) q).now ≡ cond odd (entry_file e).now (entry_file e).stable =
          ap (λ b. (cond b (entry_file f) (file_at fs q)).now) (bytes_eq_same (entry_name f) q (first.name ∙ same.1)) ∙ first.now ∙ left_by_turn odd (entry_file e) in
          first_turn known odd e es q (file_at (f ∷ fs) q).now refl asc same.1 now
      | inr other ↦
          let now : (file_at (f ∷ fs) q).now ≡ (file_at fs q).now = ap (λ b. (cond b (entry_file f) (file_at fs q)).now) (bytes_eq_other (entry_name f) q (λ is. other.1 (sym first.name ∙ is))) in
          later_turns known odd e es q (file_at (f ∷ fs) q).now asc other.1
          (now ∙ by_turns (cond known (not odd) odd) es fs (tail_ascending (entry_name e) (map entry_name es) asc) (omega arith) (λ k d lt. each (suc k) d (omega arith)) q)
    ]

left_nothing : (o : Outcome) → None ≡ left_by o no_file
left_nothing AsRead = refl
left_nothing AsStable = refl
left_nothing Scrambled = refl

all_by : (o : Outcome) (es fs : List Entry) → length fs ≡ length es → ((k : ℕ) (d : Entry) → k < length es → IsStopOf o (get_or es k d) (get_or fs k d)) → (q : List ℕ) → (file_at fs q).now ≡ left_by o (file_at es q)
all_by o es fs len each = file_at_each (λ f g. g.now ≡ left_by o f) (left_nothing o) es fs (sym len) (λ k d lt. ((each k d lt).name, (each k d lt).now))

-- the files that a stop leaves, by the number that picks
module _ (pick : ℕ) (es fs : List Entry) (asc : IsAscending (map entry_name es)) (len : length fs ≡ length es) (each : (k : ℕ) (d : Entry) → k < length es → IsStopOf (outcome_for pick (turn_behind true (take k es))) (get_or es k d) (get_or fs k d)) where
  at_pick : (n : ℕ) → pick ≡ n → (k : ℕ) (d : Entry) → k < length es → IsStopOf (outcome_for n (turn_behind true (take k es))) (get_or es k d) (get_or fs k d)
  at_pick n is k d lt = subst (λ (p : ℕ). IsStopOf (outcome_for p (turn_behind true (take k es))) (get_or es k d) (get_or fs k d)) is (each k d lt)

  pub picked_read : pick ≡ 0 → (q : List ℕ) → (file_at fs q).now ≡ (file_at es q).now
  picked_read is = all_by AsRead es fs len (at_pick 0 is)

  pub picked_stable : pick ≡ 1 → (q : List ℕ) → (file_at fs q).now ≡ (file_at es q).stable
  picked_stable is = all_by AsStable es fs len (at_pick 1 is)

  pub picked_scrambled : pick ≡ 2 → (q : List ℕ) → (file_at fs q).now ≡ option_map (scrambled (file_at es q).touched) (file_at es q).now
  picked_scrambled is = all_by Scrambled es fs len (at_pick 2 is)

  pub picked_turns : pick ≡ 3 → (names : List (List ℕ)) × (AreKnown (file_at es) names × ((q : List ℕ) → (file_at fs q).now ≡ turns_of true names (file_at es) q))
  picked_turns is = (known_of es, (are_known es asc, by_turns true es fs asc len (at_pick 3 is)))
