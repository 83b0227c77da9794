-- The range of places that holds all that was changed since the last sync.
use Rattle.std.proofs.Common.{◌≡◌, ◌≢◌, ◌⊎◌, inl, inr, ◌<◌, ◌≤◌, ◌+◌, ◌-◌, ℕ, zero, suc, true, List, [], ◌∷◌, ◌++◌, length, take, drop, set, get_or, max, refl, sym, ◌∙◌, ap, subst, arith}
use Rattle.std.specs.Prelude.{slice_range}
use Rattle.std.proofs.lemmas.List.{length-take, length-drop, get_or-take, get_or-drop, length-set, get_or-set_other}
use Rattle.node_device.specs.File.{IsAtRest}
use Rattle.node_device.specs.Entry.{entry_file}
use Rattle.node_device.specs.HeldFiles.{now_allowed}
use Rattle.node_device.specs.Entries.{IsStopOf, IsSettled, AreSettledOutside}
use Rattle.node_device.specs.EntryLists.{IsEachTo}
use Rattle.node_device.specs.declared.entry.Entry.{Entry}
use Rattle.node_device.specs.declared.outcome.Outcome.TheVariants.{AsRead}

below_or_not : (k n : ℕ) → (k < n) ⊎ (n ≤ k)
below_or_not k n = grind arith

-- what lies outside the wider range lies outside the other
still_outside : (start end low high k : ℕ) → start ≤ end → (start < end → low ≤ start) → (start < end → end ≤ high) → (k < low) ⊎ (high ≤ k) → (k < start) ⊎ (end ≤ k)
still_outside start end low high k ordered down up (inl below) = grind arith
still_outside start end low high k ordered down up (inr above) = grind arith

apart : (low high i k : ℕ) → low ≤ i → i < high → (k < low) ⊎ (high ≤ k) → k ≢ i
apart low high i k from to (inl below) = grind arith
apart low high i k from to (inr above) = grind arith

-- nothing lies outside of all places
pub all_within : (es : List Entry) (n : ℕ) → n ≡ length es → AreSettledOutside 0 n es
all_within es n is = record {
  ordered = omega arith;
  inside = omega arith;
  each = λ k d lt out. absurd (elim out [ inl below ↦ omega arith | inr above ↦ omega arith ]);
}

pub settled_set : (start end low high i : ℕ) (es : List Entry) (e : Entry) → AreSettledOutside start end es → i < length es → low ≤ i → i < high → (start < end → low ≤ start) → (start < end → end ≤ high) → high ≤ max end (i + 1)
    → AreSettledOutside low high (set es i e)
settled_set start end low high i es e s lt from to down up short = record {
  ordered = omega arith;
  inside = omega (arith, s.inside, length-set es i e);
  each = λ k d below out.
      let other : k ≢ i = apart low high i k from to out in
      subst IsSettled (sym (get_or-set_other es i k e d other)) (s.each k d (omega (arith, length-set es i e)) (still_outside start end low high k s.ordered down up out));
}

before_it : (es : List Entry) (i : ℕ) (e : Entry) (k : ℕ) (d : Entry) → k < i → i ≤ length es → get_or (take i es ++ e ∷ drop i es) k d ≡ get_or es k d
before_it es zero e k d lt le = absurd (omega arith)
before_it [] (suc i) e k d lt le = absurd (omega arith)
before_it (x ∷ es) (suc i) e zero d lt le = refl
before_it (x ∷ es) (suc i) e (suc k) d lt le = before_it es i e k d (omega arith) (omega arith)

behind_it : (es : List Entry) (i : ℕ) (e : Entry) (k : ℕ) (d : Entry) → i ≤ k → i ≤ length es → get_or (take i es ++ e ∷ drop i es) (suc k) d ≡ get_or es k d
behind_it es zero e k d le in_it = refl
behind_it [] (suc i) e k d le in_it = absurd (omega arith)
behind_it (x ∷ es) (suc i) e zero d le in_it = absurd (omega arith)
behind_it (x ∷ es) (suc i) e (suc k) d le in_it = behind_it es i e k d (omega arith) (omega arith)

shifted_outside : (start end low high k : ℕ) → start ≤ end → (start < end → end < high) → high ≤ suc k → (k < start) ⊎ (end ≤ k)
shifted_outside start end low high k ordered up above = grind arith

inserted_each : (start end low high i : ℕ) (es : List Entry) (e : Entry) → AreSettledOutside start end es → i ≤ length es → low ≤ i → i < high → (start < end → low ≤ start) → (start < end → end < high)
    → (k : ℕ) (d : Entry) → k < length es + 1 → (k < low) ⊎ (high ≤ k) → IsSettled (get_or (take i es ++ e ∷ drop i es) k d)
inserted_each start end low high i es e s le from to down up k d lt (inl below) =
    subst IsSettled (sym (before_it es i e k d (omega arith) le)) (s.each k d (omega arith) (still_outside start end low high k s.ordered down (λ some. omega (arith, up some)) (inl below)))
inserted_each start end low high i es e s le from to down up zero d lt (inr above) = absurd (omega arith)
inserted_each start end low high i es e s le from to down up (suc k) d lt (inr above) =
    subst IsSettled (sym (behind_it es i e k d (omega arith) le)) (s.each k d (omega arith) (shifted_outside start end low high k s.ordered up above))

pub settled_inserted : (start end low high i : ℕ) (es : List Entry) (e : Entry) (all : List Entry) → all ≡ take i es ++ e ∷ drop i es → length all ≡ length es + 1 → AreSettledOutside start end es → i ≤ length es → low ≤ i → i < high → (start < end → low ≤ start) → (start < end → end < high) → high ≤ max end i + 1
    → AreSettledOutside low high all
settled_inserted start end low high i es e all is len s le from to down up short = record {
  ordered = omega arith;
  inside = omega (arith, s.inside);
  each = λ k d below out. subst (λ (l : List Entry). IsSettled (get_or l k d)) (sym is) (inserted_each start end low high i es e s le from to down up k d (omega (arith, len)) out);
}

-- a settled entry is as a sync leaves it
pub stop_itself : (e : Entry) → IsAtRest (entry_file e) → IsStopOf AsRead e e
stop_itself e rest = record {
  name = refl;
  there = refl;
  now = refl;
  at_rest = rest;
  allowed = now_allowed e.there e.was_there e.fluid e.bytes.items e.kept.items e.stable_len e.greatest e.changes e.sound;
}

-- up to the range, and behind it, nothing has to be done
pub begun : (start end : ℕ) (es : List Entry) → AreSettledOutside start end es → IsEachTo (λ k. IsStopOf AsRead) start es es
begun start end es s = record {
  len = refl;
  passed = λ k d below. stop_itself (get_or es k d) (s.each k d (omega (arith, s.ordered, s.inside)) (inl below)).at_rest;
  ahead = λ k d above. refl;
}

pub all_done : (start end : ℕ) (es fs : List Entry) → AreSettledOutside start end es → IsEachTo (λ k. IsStopOf AsRead) end es fs → (k : ℕ) (d : Entry) → k < length es → IsStopOf AsRead (get_or es k d) (get_or fs k d)
all_done start end es fs s each k d lt = elim (below_or_not k end) [
  | inl below ↦ each.passed k d below
  | inr above ↦ subst (λ (x : Entry). IsStopOf AsRead (get_or es k d) x) (sym (each.ahead k d above)) (stop_itself (get_or es k d) (s.each k d lt (inr above)).at_rest)
]

-- what was settled is still
pub still_settled : (start end : ℕ) (es fs : List Entry) → AreSettledOutside start end es → length fs ≡ length es → ((k : ℕ) (d : Entry) → k < length es → IsStopOf AsRead (get_or es k d) (get_or fs k d)) → AreSettledOutside start end fs
still_settled start end es fs s len each = record {
  ordered = s.ordered;
  inside = omega (arith, s.inside);
  each = λ k d lt out.
      let below : k < length es = omega arith in
      record { there = (each k d below).there ∙ (s.each k d below out).there; at_rest = (each k d below).at_rest };
}

-- where the files of the range are there, all are
pub there_within : (es : List Entry) (start end : ℕ) → AreSettledOutside start end es → ((k : ℕ) (d : Entry) → k < length (slice_range es start end) → (get_or (slice_range es start end) k d).there ≡ true)
    → (k : ℕ) (d : Entry) → k < length es → (get_or es k d).there ≡ true
there_within es start end s there k d lt = elim (below_or_not k start) [
  | inl below ↦ (s.each k d lt (inl below)).there
  | inr from ↦ elim (below_or_not k end) [
    | inl inside ↦
        let n : k - start < end - start = omega arith in
        let at : start + (k - start) ≡ k = omega arith in
        let is : get_or (slice_range es start end) (k - start) d ≡ get_or es k d = get_or-take (end - start) (drop start es) (k - start) d n ∙ get_or-drop start es (k - start) d ∙ ap (λ (j : ℕ). get_or es j d) at in
        ap (λ (e : Entry). e.there) (sym is) ∙ there (k - start) d (omega (arith, length-take (end - start) (drop start es), length-drop start es, s.inside))
    | inr above ↦ (s.each k d lt (inr above)).there
  ]
]
