-- The datasets that are sealed and indexed next, the open one, the empty state, and what no device tells of a proper one.
use Rattle.std.proofs.Common.{◌≡◌, ◌≢◌, ◌⊎◌, inl, inr, ◌<◌, ◌≤◌, ◌+◌, ◌*◌, ◌==◌, ℕ, zero, suc, Bool, true, false, List, [], ◌∷◌, length, Option, Some, None, refl, sym, ap, subst, arith}
use Rattle.std.specs.Prelude.{IsTrue, ◌&&◌, ◌||◌, not, find, nat_lt, slice_get, slice_index_or, option_map, unwrap_or, if◌then◌else◌, AllPairs}
use Rattle.std.specs.List.{list_any, list_all}
use Rattle.std.proofs.lemmas.Bool.Decides.{nat_tests}
use Rattle.scr_base.specs.declared.shape.DataId.{DataId}
use Rattle.scr_base.specs.Same.{same_id}
use Rattle.scr_base.specs.Sets.{fits_sets}
use Rattle.ckpt_model.specs.declared.event.Event.TheVariants as event
use Rattle.ckpt_model.specs.Dataset.{Dataset}
use Rattle.ckpt_model.specs.Machine.{Machine, Setup, Kept, Entry, EntryMark, empty_machine}
use Rattle.ckpt_model.specs.Questions.{is_kept, is_indexed, is_id_of, is_entry_of, kept_of, is_running, is_clear}
use Rattle.ckpt_model.specs.Steps.{add_kept, add_entry, add_indexing, add_sealing, kept_sealing, sealing_dataset, is_that}
use Rattle.ckpt_model.specs.Moves.{may}
use Rattle.ckpt_model.specs.Proper.{IsProper, AreApart, ids_rise, is_of_site, same_shape, datasets}
use Rattle.ckpt_model.proofs.Plays.{same_id_is}
use Rattle.ckpt_model.proofs.SameLemmas.{id-same}
use Rattle.model_proper.specs.Fair.{IsFair, IsNew, IsOther}
use Rattle.model_proper.specs.Next.{IsSealedNext, IsIndexedNext, IsOpenAlone}
use Rattle.model_proper.proofs.Lists.{front, behind, In, in_left, in_right, map_in, each_of, all_of, all_true, id_of, first_low, rest_rises}
use Rattle.model_proper.proofs.Fair.Passes.{of_kept, of_index, not_kept_each, not_kept_all, not_indexed_each, not_indexed_all, between_fair, by_proper, proper_by}
use Rattle.model_proper.proofs.Events.Arrivals.{add_in, in_add, find_in, entry_proper, MayCome, sealing_comes, sealing_proper, running_places}
use Rattle.model_proper.proofs.Events.Each.{off, seal_runs}

-- what stands at a place stands in the list
pub get_in : {A : Type 0} (xs : List A) (i : ℕ) (x : A) → slice_get xs i ≡ Some x → In xs x
get_in [] i x at = absurd (cc at)
get_in (y ∷ ys) zero x at = inl (cc at)
get_in (y ∷ ys) (suc i) x at = inr (get_in ys i x at)

in_any : {A : Type 0} (t : A → Bool) (xs : List A) (x : A) → In xs x → t x ≡ true → list_any t xs ≡ true
in_any t [] x at is = absurd at
in_any {A = A} t (y ∷ ys) x at is = split (t y) refl at (λ there. in_any t ys x there is)
  where
    split : (b : Bool) → t y ≡ b → (y ≡ x) ⊎ In ys x → (In ys x → list_any t ys ≡ true) → b || list_any t ys ≡ true
    split true passes at go = refl
    split false passes (inl same) go = absurd (let e : t y ≡ true = subst (λ (z : A). t z ≡ true) (sym same) is in cc (passes, e))
    split false passes (inr there) go = go there

differ : (a b : DataId) → a.id ≢ b.id → same_id a b ≡ false
differ a b other = split (same_id a b) refl
  where
    split : (x : Bool) → same_id a b ≡ x → same_id a b ≡ false
    split false is = is
    split true is = absurd (other (ap (λ (d : DataId). d.id) (same_id_is a b is)))

that_is : (o : Option DataId) (which : DataId) → IsTrue (is_that o which) → o ≡ Some which
that_is None which is = absurd (cc is)
that_is (Some x) which is = ap Some (sym (same_id_is which x is))

run_of : (s : Setup) (run : ℕ) (d : Dataset) → IsTrue (is_of_site s run d) → d.which.run ≤ run
run_of s run d is = low d.which.run (behind (same_shape d.shape s.shape && fits_sets d.scheme d.size s.shape.nodes && length d.files == s.shape.nodes * s.shape.ranks) (nat_lt d.which.run (run + 1)) is)
  where
    low : (r : ℕ) → IsTrue (nat_lt r (run + 1)) → r ≤ run
    low r lt = grind (arith, nat_tests)

next_by : (s : Setup) (m : Machine) (d : Dataset) → is_running m.stage ≡ true → sealing_dataset s m ≡ Some d → MayCome s m d → IsFair s m → IsSealedNext s m d
next_by s m d running is come fair = record {
  is_next = is;
  not_kept = not_kept;
  run_low = run_of s m.run d come.of_site;
  after_is = ap (λ (o : Option Dataset). unwrap_or (option_map (add_sealing m) o) m) is;
  there = in_any (is_id_of d.which) (add_kept (kept_sealing m.places d) m.kept) (kept_sealing m.places d) (in_add (kept_sealing m.places d) m.kept (kept_sealing m.places d) (inl refl)) (id-same d.which);
  alone = λ i k at same. alone k same (add_in (kept_sealing m.places d) m.kept k (get_in (add_kept (kept_sealing m.places d) m.kept) i k at));
  proper = sealing_proper s m d (running_places s m running fair) come fair.proper;
}
  where
    not_kept : is_kept m d.which ≡ false
    not_kept = not_kept_all m d.which (λ x at. differ x.which d.which (λ same. come.free x at (sym same)))

    alone : (k : Kept) → k.dataset.which ≡ d.which → (kept_sealing m.places d ≡ k) ⊎ In m.kept k → k ≡ kept_sealing m.places d
    alone k same (inl is_it) = sym is_it
    alone k same (inr there) = absurd (let none = not_kept_each m d.which not_kept k.dataset (map_in (λ (x : Kept). x.dataset) m.kept k there) in let now : same_id k.dataset.which d.which ≡ true = subst (λ (w : DataId). same_id w d.which ≡ true) (sym same) (id-same d.which) in cc (none, now))

-- where a Sealing is allowed, there is a dataset of that identity to be sealed
pub sealed_next : (s : Setup) (m : Machine) (which : DataId) → IsTrue (may s m (event.Sealing which)) → IsFair s m → (d : Dataset) × (d.which ≡ which) × IsSealedNext s m d
sealed_next s m which may_be fair = pick (sealing_dataset s m) refl (that_is (option_map (λ d. d.which) (sealing_dataset s m)) which (behind (is_clear m) (is_that (option_map (λ d. d.which) (sealing_dataset s m)) which) may_be))
  where
    running : is_running m.stage ≡ true
    running = seal_runs s m which may_be

    pick : (o : Option Dataset) → sealing_dataset s m ≡ o → option_map (λ (d : Dataset). d.which) o ≡ Some which → (d : Dataset) × (d.which ≡ which) × IsSealedNext s m d
    pick None at same = absurd (cc same)
    pick (Some d) at same = (d, cc same, next_by s m d running at (sealing_comes s m d at fair.proper (fair.serving running)) fair)

-- the state for which empty devices stand
pub empty_fair : (s : Setup) → IsTrue (fits_sets s.config.scheme s.config.size s.shape.nodes) → IsFair s empty_machine
empty_fair s fits = between_fair s empty_machine refl (proper_by s empty_machine (record {
  apart = λ d e d_in e_in. absurd d_in;
  of_site = λ d at. absurd at;
  kept_rise = refl;
  index_rise = refl;
  held = λ k at. absurd at;
})) fits

-- ## Indexing

entry_add_in : (e : Entry) (es : List Entry) (x : Entry) → In (add_entry e es) x → (e ≡ x) ⊎ In es x
entry_add_in e [] x at = at
entry_add_in e (y ∷ ys) x at = split (nat_lt y.dataset.which.id e.dataset.which.id) at (entry_add_in e ys x)
  where
    over : (e ≡ x) ⊎ In ys x → (e ≡ x) ⊎ ((y ≡ x) ⊎ In ys x)
    over (inl is) = inl is
    over (inr is) = inr (inr is)

    split : (b : Bool) → In (if b then y ∷ add_entry e ys else e ∷ y ∷ ys) x → (In (add_entry e ys) x → (e ≡ x) ⊎ In ys x) → (e ≡ x) ⊎ ((y ≡ x) ⊎ In ys x)
    split true (inl is) go = inr (inl is)
    split true (inr there) go = over (go there)
    split false at go = at

entry_in_add : (e : Entry) (es : List Entry) → In (add_entry e es) e
entry_in_add e [] = inl refl
entry_in_add e (y ∷ ys) = split (nat_lt y.dataset.which.id e.dataset.which.id) (entry_in_add e ys)
  where
    split : (b : Bool) → In (add_entry e ys) e → In (if b then y ∷ add_entry e ys else e ∷ y ∷ ys) e
    split true there = inr there
    split false there = inl refl

index_next_by : (s : Setup) (m : Machine) (k : Kept) → kept_of m k.dataset.which ≡ Some k → is_indexed m k.dataset.which ≡ false → IsProper s m → IsIndexedNext s m k
index_next_by s m k is none proper = record {
  is_next = is;
  not_indexed = none;
  after_is = ap (λ (o : Option Kept). unwrap_or (option_map (add_indexing m) o) m) is;
  there = in_any (is_entry_of k.dataset.which) (add_entry (record { dataset = k.dataset; mark = EntryMark.Indexing }) m.index) (record { dataset = k.dataset; mark = EntryMark.Indexing }) (entry_in_add (record { dataset = k.dataset; mark = EntryMark.Indexing }) m.index) (id-same k.dataset.which);
  alone = λ i e at same. alone e same (entry_add_in (record { dataset = k.dataset; mark = EntryMark.Indexing }) m.index e (get_in (add_entry (record { dataset = k.dataset; mark = EntryMark.Indexing }) m.index) i e at));
  proper = let found = find_in (is_id_of k.dataset.which) m.kept k is in entry_proper s EntryMark.Indexing m k.dataset.which k found.0 found.1 none proper;
}
  where
    alone : (e : Entry) → e.dataset.which ≡ k.dataset.which → (record { dataset = k.dataset; mark = EntryMark.Indexing } ≡ e) ⊎ In m.index e → e ≡ record { dataset = k.dataset; mark = EntryMark.Indexing }
    alone e same (inl is_it) = sym is_it
    alone e same (inr there) = absurd (let no_such = not_indexed_each m k.dataset.which none e.dataset (map_in (λ (x : Entry). x.dataset) m.index e there) in let now : same_id e.dataset.which k.dataset.which ≡ true = subst (λ (w : DataId). same_id w k.dataset.which ≡ true) (sym same) (id-same k.dataset.which) in cc (no_such, now))

any_found : {A : Type 0} (t : A → Bool) (xs : List A) → IsTrue (list_any t xs) → (x : A) × (find t xs ≡ Some x)
any_found t [] is = absurd (cc is)
any_found t (y ∷ ys) is = split (t y) is (any_found t ys)
  where
    split : (b : Bool) → IsTrue (b || list_any t ys) → (IsTrue (list_any t ys) → (x : _) × (find t ys ≡ Some x)) → (x : _) × ((if b then Some y else find t ys) ≡ Some x)
    split true is go = (y, refl)
    split false is go = go is

-- where an Indexing is allowed, there is a kept dataset of that identity to be indexed
pub indexed_next : (s : Setup) (m : Machine) (which : DataId) → IsTrue (may s m (event.Indexing which)) → IsFair s m → (k : Kept) × (k.dataset.which ≡ which) × IsIndexedNext s m k
indexed_next s m which may_be fair =
    let k = any_found (is_id_of which) m.kept kept in
    let found = find_in (is_id_of which) m.kept k.0 k.1 in
    let same = same_id_is k.0.dataset.which which found.1 in
    (k.0, same, index_next_by s m k.0 (subst (λ (w : DataId). kept_of m w ≡ Some k.0) (sym same) k.1) (subst (λ (w : DataId). is_indexed m w ≡ false) (sym same) none) fair.proper)
  where
    none : is_indexed m which ≡ false
    none = off (is_indexed m which) (behind (is_running m.stage && is_that m.flushing which && is_kept m which) (not (is_indexed m which)) may_be)

    kept : IsTrue (is_kept m which)
    kept = behind (is_running m.stage && is_that m.flushing which) (is_kept m which) (front (is_running m.stage && is_that m.flushing which && is_kept m which) (not (is_indexed m which)) may_be)

-- ## The open dataset

pub open_alone : (s : Setup) (m : Machine) (d : Dataset) → is_running m.stage ≡ true → m.open_dataset ≡ Some d → IsFair s m → IsOpenAlone s m d
open_alone s m d running at fair = record {
  of_site = is_new.of_site;
  run = is_new.run;
  not_kept = not_kept_all m d.which (λ x there. differ x.which d.which (λ same. let other = each_of (IsOther d) (datasets m) is_new.others x (in_left (of_kept m.kept) (of_index m.index) x there) in other.0 (sym same)));
  not_indexed = not_indexed_all m d.which (λ x there. differ x.which d.which (λ same. let other = each_of (IsOther d) (datasets m) is_new.others x (in_right (of_kept m.kept) (of_index m.index) x there) in other.0 (sym same)));
  named_alone = all_of (λ e. d.name ≡ e.name → ⊥) (datasets m) (λ x there. let other = each_of (IsOther d) (datasets m) is_new.others x there in other.1);
}
  where
    is_new : IsNew s m d
    is_new = (fair.serving running).open_dataset d at

-- ## What no device tells

pub proper_fits : (s : Setup) (m : Machine) → IsProper s m → IsTrue (list_all (λ k. fits_sets k.dataset.scheme k.dataset.size s.shape.nodes) m.kept)
proper_fits s m proper = all_true (λ k. fits_sets k.dataset.scheme k.dataset.size s.shape.nodes) m.kept (λ k at. second (same_shape k.dataset.shape s.shape) (fits_sets k.dataset.scheme k.dataset.size s.shape.nodes) (length k.dataset.files == s.shape.nodes * s.shape.ranks) (nat_lt k.dataset.which.run (m.run + 1))
    ((by_proper s m proper).of_site k.dataset (in_left (of_kept m.kept) (of_index m.index) k.dataset (map_in (λ (x : Kept). x.dataset) m.kept k at))))
  where
    second : (a b c d : Bool) → IsTrue (a && b && c && d) → IsTrue b
    second a b c d is = behind a b (front (a && b) c (front (a && b && c) d is))

in_at : {A : Type 0} (xs : List A) (i : ℕ) (d : A) → i < length xs → In xs (slice_index_or xs i d)
in_at [] i d low = absurd (omega (arith, low))
in_at (x ∷ xs) zero d low = inl refl
in_at (x ∷ xs) (suc i) d low = inr (in_at xs i d (omega (arith, low)))

named_apart : (ks : List Kept) → IsTrue (ids_rise (of_kept ks)) → ((d e : Dataset) → In (of_kept ks) d → In (of_kept ks) e → AreApart d e) → (i j : ℕ) (o : Kept) → i < j → j < length ks → (slice_index_or ks i o).dataset.name ≢ (slice_index_or ks j o).dataset.name
named_apart [] rise apart i j o lt low = absurd (omega (arith, low))
named_apart (k ∷ ks) rise apart zero zero o lt low = absurd (omega (arith, lt))
named_apart (k ∷ ks) rise apart (suc i) zero o lt low = absurd (omega (arith, lt))
named_apart (k ∷ ks) rise apart zero (suc j) o lt low = other (in_at ks j o (omega (arith, low)))
  where
    other : In ks (slice_index_or ks j o) → k.dataset.name ≢ (slice_index_or ks j o).dataset.name
    other there = let at = map_in (λ (x : Kept). x.dataset) ks (slice_index_or ks j o) there in pick (apart k.dataset (slice_index_or ks j o).dataset (inl refl) (inr at)) (first_low k.dataset (of_kept ks) rise (slice_index_or ks j o).dataset at)
      where
        pick : AreApart k.dataset (slice_index_or ks j o).dataset → id_of k.dataset < id_of (slice_index_or ks j o).dataset → k.dataset.name ≢ (slice_index_or ks j o).dataset.name
        pick (inl same) less = absurd (let e = ap id_of same in omega (arith, e, less))
        pick (inr others) less = others.1
named_apart (k ∷ ks) rise apart (suc i) (suc j) o lt low = named_apart ks (rest_rises k.dataset (of_kept ks) rise) (λ d e d_in e_in. apart d e (inr d_in) (inr e_in)) i j o (omega (arith, lt)) (omega (arith, low))

pub proper_named : (s : Setup) (m : Machine) → IsProper s m → AllPairs (λ k l. k.dataset.name ≢ l.dataset.name) m.kept
proper_named s m proper = λ i j o lt low. named_apart m.kept proper.kept_rise (λ d e d_in e_in. (by_proper s m proper).apart d e (in_left (of_kept m.kept) (of_index m.index) d d_in) (in_left (of_kept m.kept) (of_index m.index) e e_in)) i j o lt low
