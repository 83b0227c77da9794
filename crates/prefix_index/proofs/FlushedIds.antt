-- The identities of the flushed entries, entry by entry.
use Rattle.std.proofs.Common.{◌≡◌, ◌<◌, ◌≤◌, ◌+◌, ◌&&◌, ◌||◌, not, Bool, true, false, ℕ, zero, suc, List, [], ◌∷◌, ◌++◌, Option, None, take, get_or, length, fold, cond, refl, sym, ap, ◌∙◌, arith, tests}
use Rattle.std.specs.Prelude.{filter, map}
use Rattle.std.proofs.lemmas.List.{take_more, take_all}
use Rattle.scr_base.specs.declared.shape.DataId.{DataId}
use Rattle.scr_base.specs.Same.{same_id}
use Rattle.scr_base.specs.Index.{later_id, is_id_among}
use Rattle.prefix_index.specs.Marks.{flushed_ids}
use Rattle.prefix_index.specs.declared.entry.Entry.{Entry}

ids_by : (f : Bool) → Entry → List Entry → List DataId
ids_by false e rest = e.desc.which ∷ flushed_ids rest
ids_by true e rest = flushed_ids rest

ids_front : (e : Entry) (rest : List Entry) → flushed_ids (e ∷ rest) ≡ ids_by e.failed e rest
unfolding ids_by
ids_front e rest = pick e.failed
  where
    pick : (f : Bool) → map (λ x. x.desc.which) (cond (not f) (e ∷ filter (λ x. not x.failed) rest) (filter (λ x. not x.failed) rest)) ≡ ids_by f e rest
    pick false = refl
    pick true = refl

-- with one more entry, which is flushed
pub ids_flushed : (entries : List Entry) (e : Entry) → e.failed ≡ false → flushed_ids (entries ++ e ∷ []) ≡ flushed_ids entries ++ e.desc.which ∷ []
unfolding ids_by
ids_flushed [] e is = ids_front e [] ∙ ap (λ (f : Bool). ids_by f e []) is
ids_flushed (x ∷ xs) e is = ids_front x (xs ++ e ∷ []) ∙ pick x.failed (ids_flushed xs e is) ∙ ap (λ (l : List DataId). l ++ e.desc.which ∷ []) (sym (ids_front x xs))
  where
    pick : (f : Bool) → flushed_ids (xs ++ e ∷ []) ≡ flushed_ids xs ++ e.desc.which ∷ [] → ids_by f x (xs ++ e ∷ []) ≡ ids_by f x xs ++ e.desc.which ∷ []
    pick false same = ap (λ (l : List DataId). x.desc.which ∷ l) same
    pick true same = same

-- or failed
pub ids_failed : (entries : List Entry) (e : Entry) → e.failed ≡ true → flushed_ids (entries ++ e ∷ []) ≡ flushed_ids entries
unfolding ids_by
ids_failed [] e is = ids_front e [] ∙ ap (λ (f : Bool). ids_by f e []) is
ids_failed (x ∷ xs) e is = ids_front x (xs ++ e ∷ []) ∙ pick x.failed (ids_failed xs e is) ∙ sym (ids_front x xs)
  where
    pick : (f : Bool) → flushed_ids (xs ++ e ∷ []) ≡ flushed_ids xs → ids_by f x (xs ++ e ∷ []) ≡ ids_by f x xs
    pick false same = ap (λ (l : List DataId). x.desc.which ∷ l) same
    pick true same = same

fold_push : (ids : List DataId) (start : Option DataId) (which : DataId) → fold later_id start (ids ++ which ∷ []) ≡ later_id (fold later_id start ids) which
fold_push [] start which = refl
fold_push (x ∷ xs) start which = fold_push xs (later_id start x) which

any_push : (ids : List DataId) (which sought : DataId) → is_id_among (ids ++ which ∷ []) sought ≡ (is_id_among ids sought || same_id sought which)
any_push [] which sought = or_false (same_id sought which)
  where
    or_false : (b : Bool) → (b || false) ≡ (false || b)
    or_false true = refl
    or_false false = refl
any_push (x ∷ xs) which sought = ap (λ (b : Bool). same_id sought x || b) (any_push xs which sought) ∙ regroup (same_id sought x) (is_id_among xs sought) (same_id sought which)
  where
    regroup : (a b c : Bool) → (a || (b || c)) ≡ ((a || b) || c)
    regroup true b c = refl
    regroup false b c = refl

-- ## One entry further

module _ (entries : List Entry) (k : ℕ) (e : Entry) (lt : k < length entries) (is : e ≡ get_or entries k e) where
  one_more : take (k + 1) entries ≡ take k entries ++ e ∷ []
  one_more = take_more entries k e lt ∙ ap (λ (x : Entry). take k entries ++ x ∷ []) (sym is)

  pub more_flushed : e.failed ≡ false → flushed_ids (take (k + 1) entries) ≡ flushed_ids (take k entries) ++ e.desc.which ∷ []
  more_flushed flushed = ap flushed_ids one_more ∙ ids_flushed (take k entries) e flushed

  pub more_failed : e.failed ≡ true → flushed_ids (take (k + 1) entries) ≡ flushed_ids (take k entries)
  more_failed failed = ap flushed_ids one_more ∙ ids_failed (take k entries) e failed

  pub last_flushed : (last : Option DataId) → e.failed ≡ false → last ≡ fold later_id None (flushed_ids (take k entries)) → later_id last e.desc.which ≡ fold later_id None (flushed_ids (take (k + 1) entries))
  last_flushed last flushed so_far = ap (λ (o : Option DataId). later_id o e.desc.which) so_far ∙ sym (fold_push (flushed_ids (take k entries)) None e.desc.which) ∙ ap (fold later_id None) (sym (more_flushed flushed))

  pub last_failed : (last : Option DataId) → e.failed ≡ true → last ≡ fold later_id None (flushed_ids (take k entries)) → last ≡ fold later_id None (flushed_ids (take (k + 1) entries))
  last_failed last failed so_far = so_far ∙ ap (fold later_id None) (sym (more_failed failed))

  pub none_flushed : (sought : DataId) → e.failed ≡ false → same_id sought e.desc.which ≡ false → is_id_among (flushed_ids (take k entries)) sought ≡ false → is_id_among (flushed_ids (take (k + 1) entries)) sought ≡ false
  none_flushed sought flushed other none = ap (λ (l : List DataId). is_id_among l sought) (more_flushed flushed) ∙ any_push (flushed_ids (take k entries)) e.desc.which sought ∙ both (is_id_among (flushed_ids (take k entries)) sought) (same_id sought e.desc.which) none other
    where
      both : (a b : Bool) → a ≡ false → b ≡ false → (a || b) ≡ false
      both true b p q = absurd (cc p)
      both false true p q = absurd (cc q)
      both false false p q = refl

  pub none_failed : (sought : DataId) → e.failed ≡ true → is_id_among (flushed_ids (take k entries)) sought ≡ false → is_id_among (flushed_ids (take (k + 1) entries)) sought ≡ false
  none_failed sought failed none = ap (λ (l : List DataId). is_id_among l sought) (more_failed failed) ∙ none

-- the entry at a place is flushed, and is the one that is sought
pub found_at : (entries : List Entry) (k : ℕ) (e : Entry) (sought : DataId) → k < length entries → e ≡ get_or entries k e → e.failed ≡ false → same_id sought e.desc.which ≡ true → is_id_among (flushed_ids entries) sought ≡ true
unfolding ids_by
found_at [] k e sought lt is flushed same = absurd (omega (arith, lt))
found_at (x ∷ xs) zero e sought lt is flushed same =
    let front : flushed_ids (x ∷ xs) ≡ e.desc.which ∷ flushed_ids xs = ids_front x xs ∙ ap (λ (y : Entry). ids_by y.failed y xs) (sym is) ∙ ap (λ (f : Bool). ids_by f e xs) flushed in
    ap (λ (l : List DataId). is_id_among l sought) front ∙ ap (λ (b : Bool). b || is_id_among (flushed_ids xs) sought) same
found_at (x ∷ xs) (suc k) e sought lt is flushed same = ap (λ (l : List DataId). is_id_among l sought) (ids_front x xs) ∙ pick x.failed (found_at xs k e sought (omega (arith, lt)) is flushed same)
  where
    or_true : (b : Bool) → (b || true) ≡ true
    or_true true = refl
    or_true false = refl

    pick : (f : Bool) → is_id_among (flushed_ids xs) sought ≡ true → is_id_among (ids_by f x xs) sought ≡ true
    pick false found = ap (λ (b : Bool). same_id sought x.desc.which || b) found ∙ or_true (same_id sought x.desc.which)
    pick true found = found

-- ## The one that is sought

both_true : (a b : Bool) → (a && b) ≡ true → (a ≡ true) × (b ≡ true)
both_true true true is = (refl, refl)
both_true true false is = absurd (cc is)
both_true false b is = absurd (cc is)

not_true : (b : Bool) → not b ≡ true → b ≡ false
not_true true is = absurd (cc is)
not_true false is = refl

pub found_this : (entries : List Entry) (k : ℕ) (e : Entry) (sought : DataId) (r : Bool) → k < length entries → e ≡ get_or entries k e → r ≡ (not e.failed && same_id sought e.desc.which) → r ≡ true → true ≡ is_id_among (flushed_ids entries) sought
found_this entries k e sought r lt is tests holds =
    let both = both_true (not e.failed) (same_id sought e.desc.which) (sym tests ∙ holds) in
    sym (found_at entries k e sought lt is (not_true e.failed both.0) both.1)

pub none_so_far : (entries : List Entry) (k : ℕ) (e : Entry) (sought : DataId) (r : Bool) → k < length entries → e ≡ get_or entries k e → r ≡ (not e.failed && same_id sought e.desc.which) → r ≡ false → is_id_among (flushed_ids (take k entries)) sought ≡ false → is_id_among (flushed_ids (take (k + 1) entries)) sought ≡ false
none_so_far entries k e sought r lt is tests fails none = pick e.failed refl
  where
    pick : (f : Bool) → e.failed ≡ f → is_id_among (flushed_ids (take (k + 1) entries)) sought ≡ false
    pick true failed = none_failed entries k e lt is sought failed none
    pick false flushed = none_flushed entries k e lt is sought flushed (sym (ap (λ (f : Bool). not f && same_id sought e.desc.which) flushed) ∙ sym tests ∙ fails) none

pub none_of_all : (entries : List Entry) (k : ℕ) (sought : DataId) → length entries ≤ k → is_id_among (flushed_ids (take k entries)) sought ≡ false → false ≡ is_id_among (flushed_ids entries) sought
none_of_all entries k sought end none = sym (ap (λ (l : List Entry). is_id_among (flushed_ids l) sought) (sym (take_all k entries end)) ∙ none)

pub last_of_all : (entries : List Entry) (k : ℕ) (last : Option DataId) → length entries ≤ k → last ≡ fold later_id None (flushed_ids (take k entries)) → last ≡ fold later_id None (flushed_ids entries)
last_of_all entries k last end so_far = so_far ∙ ap (λ (l : List Entry). fold later_id None (flushed_ids l)) (take_all k entries end)

pub nothing_yet : (entries : List Entry) (sought : DataId) → is_id_among (flushed_ids (take 0 entries)) sought ≡ false
nothing_yet [] sought = refl
nothing_yet (x ∷ xs) sought = refl

pub no_last_yet : (entries : List Entry) → fold later_id None (flushed_ids (take 0 entries)) ≡ None
no_last_yet [] = refl
no_last_yet (x ∷ xs) = refl
