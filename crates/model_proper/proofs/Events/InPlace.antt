-- Events that change kept datasets and entries where they stand, or take some away.
use Rattle.std.proofs.Common.{◌≡◌, ◌⊎◌, inl, inr, ◌<◌, ◌≤◌, ◌+◌, ◌==◌, ℕ, Bool, true, false, List, [], ◌∷◌, ◌++◌, map, Option, Some, None, refl, sym, ◌∙◌, ap, subst, arith}
use Rattle.std.specs.Prelude.{IsTrue, ◌&&◌, not, filter, max, fold, nat_lt, unwrap_or, is_some, if◌then◌else◌}
use Rattle.std.proofs.lemmas.Bool.Decides.{nat_tests}
use Rattle.scr_base.specs.declared.shape.DataId.{DataId}
use Rattle.ckpt_model.specs.declared.event.FoundRow.{FoundRow}
use Rattle.ckpt_model.specs.declared.event.EntryRow.{EntryRow}
use Rattle.ckpt_model.specs.Dataset.{Dataset}
use Rattle.ckpt_model.specs.Machine.{Machine, Setup, Kept, Entry, EntryMark, Stage}
use Rattle.ckpt_model.specs.Loss.{kept_without_all, kept_taken_up}
use Rattle.ckpt_model.specs.Questions.{is_flushed, is_id_of, is_entry_of}
use Rattle.ckpt_model.specs.Steps.{change_kept, drop_kept, change_entry, entry_marked, entry_failing, kept_failing, is_begun, is_between, may_begin, after_begin, are_places, outside, kept_after_look, are_rows_of, largest_id, may_list, after_found, after_failing, after_failure}
use Rattle.model_proper.specs.Fair.{IsFair, is_up}
use Rattle.model_proper.proofs.Lists.{front, behind, In, in_either, in_map, all_of, Thins, thins_self, thins_same, thins_in, thins_map, thins_filter}
use Rattle.model_proper.proofs.Fair.Passes.{of_kept, of_index, IsHeld, Thinner, thinner_proper, thinner_self, IsAlike, alike_passes, passes_fair}
use Rattle.model_proper.proofs.Kept.Held.{held_without_all, held_taken_up, same_without_all, same_taken_up, same_kept, same_index, same_that, same_entry, held_that, held_all}
use Rattle.model_proper.proofs.Kept.Looks.{IsLeft, looked_left}

-- each kept dataset is changed where it stands
pub map_fair : (s : Setup) (m n : Machine) (f : Kept → Kept) → ((k : Kept) → (f k).dataset ≡ k.dataset) → ((k : Kept) → IsHeld s k → IsHeld s (f k)) → n.kept ≡ map f m.kept → n.index ≡ m.index → IsAlike m n → IsFair s m → IsFair s n
map_fair s m n f same keeps kept index alike = passes_fair s m n (alike_passes s m n (record {
  kept = thins_same (of_kept m.kept) (of_kept n.kept) (ap of_kept kept ∙ same_kept f same m.kept);
  index = thins_same (of_index m.index) (of_index n.index) (ap of_index index);
  run = subst (λ (x : ℕ). m.run ≤ x) (sym alike.run) (omega arith);
  held = λ held k at. held_all s f keeps m.kept held k (subst (λ (ks : List Kept). In ks k) kept at);
}) (λ running. ap of_index index) alike)

-- the one of an identity is
pub change_fair : (s : Setup) (m : Machine) (f : Kept → Kept) (which : DataId) → ((k : Kept) → (f k).dataset ≡ k.dataset) → ((k : Kept) → IsHeld s k → IsHeld s (f k)) → IsFair s m → IsFair s (change_kept f which m)
change_fair s m f which same keeps = map_fair s m (change_kept f which m) (λ k. if is_id_of which k then f k else k) (same_that f same which) (held_that s f keeps which) refl refl (record { stage = refl; run = refl; next = refl; places = refl; open_dataset = refl; fetching = refl })

-- it is no more kept
pub drop_fair : (s : Setup) (m : Machine) (which : DataId) → IsFair s m → IsFair s (drop_kept which m)
drop_fair s m which = passes_fair s m (drop_kept which m) (alike_passes s m (drop_kept which m) (record {
  kept = thins_map (λ k. k.dataset) m.kept (filter (λ k. not (is_id_of which k)) m.kept) (thins_filter (λ k. not (is_id_of which k)) m.kept);
  index = thins_self (of_index m.index);
  run = omega arith;
  held = λ held k at. held k (thins_in m.kept (filter (λ x. not (is_id_of which x)) m.kept) (thins_filter (λ x. not (is_id_of which x)) m.kept) k at);
}) (λ running. refl) (record { stage = refl; run = refl; next = refl; places = refl; open_dataset = refl; fetching = refl }))

-- an entry is marked
pub entry_fair : (s : Setup) (m : Machine) (f : Entry → Entry) (which : DataId) → ((e : Entry) → (f e).dataset ≡ e.dataset) → IsFair s m → IsFair s (change_entry f which m)
entry_fair s m f which same = passes_fair s m (change_entry f which m) (alike_passes s m (change_entry f which m) (record {
  kept = thins_self (of_kept m.kept);
  index = thins_same (of_index m.index) (of_index (map (λ e. if is_entry_of which e then f e else e) m.index)) (same_index (λ e. if is_entry_of which e then f e else e) (same_entry f same which) m.index);
  run = omega arith;
  held = λ held k at. held k at;
}) (λ running. same_index (λ e. if is_entry_of which e then f e else e) (same_entry f same which) m.index) (record { stage = refl; run = refl; next = refl; places = refl; open_dataset = refl; fetching = refl }))

-- lists as they are, and nothing else that fairness speaks of
pub alike_fair : (s : Setup) (m n : Machine) → n.kept ≡ m.kept → n.index ≡ m.index → IsAlike m n → IsFair s m → IsFair s n
alike_fair s m n kept index alike = passes_fair s m n (alike_passes s m n (thinner_self s m n kept index (subst (λ (x : ℕ). m.run ≤ x) (sym alike.run) (omega arith))) (λ running. ap of_index index) alike)

same_failing : (e : Entry) → (entry_failing e).dataset ≡ e.dataset
same_failing e = split (is_flushed e.mark)
  where
    split : (b : Bool) → (if b then record e { mark = EntryMark.Failing } else e).dataset ≡ e.dataset
    split true = refl
    split false = refl

pub failing_fair : (s : Setup) (m : Machine) (which : DataId) → IsFair s m → IsFair s (after_failing m which)
failing_fair s m which fair = entry_fair s (change_kept kept_failing which m) entry_failing which same_failing (change_fair s m kept_failing which (λ k. refl) (λ k is. record { members = is.members; homes = is.homes }) fair)

pub failure_fair : (s : Setup) (m : Machine) (which : DataId) → IsFair s m → IsFair s (after_failure m which)
failure_fair s m which fair = entry_fair s (drop_kept which m) (entry_marked EntryMark.Failed) which (λ e. refl) (drop_fair s m which fair)

-- ## A run's beginning

pub begin_fair : (s : Setup) (m : Machine) (run : ℕ) (places : List ℕ) → IsTrue (may_begin s m run places) → IsFair s m → IsFair s (after_begin s m run places)
begin_fair s m run places may fair = record {
  proper = thinner_proper s m (after_begin s m run places) (thinner_self s m (after_begin s m run places) refl refl (later run_is)) fair.proper;
  fits = fair.fits;
  places = λ up. behind (is_between m.stage && run == m.run + 1 && nat_lt m.run 4294967295) (are_places s places) may;
  begun = λ begun. (refl, refl);
  serving = λ running. absurd (cc running);
  scavenging = λ which at. absurd (cc at);
}
  where
    run_is : IsTrue (run == m.run + 1)
    run_is = behind (is_between m.stage) (run == m.run + 1) (front (is_between m.stage && run == m.run + 1) (nat_lt m.run 4294967295) (front (is_between m.stage && run == m.run + 1 && nat_lt m.run 4294967295) (are_places s places) may))

    later : IsTrue (run == m.run + 1) → m.run ≤ run
    later is = grind (arith, nat_tests)

-- ## What is found

-- the largest of these numbers, and of one to begin with
pub largest_from : {A : Type 0} (f : A → ℕ) (xs : List A) (n : ℕ) → (n ≤ fold (λ r x. max r (f x)) n xs) × ((x : A) → In xs x → f x ≤ fold (λ r x. max r (f x)) n xs)
largest_from f [] n = (omega arith, λ x at. absurd at)
largest_from {A = A} f (y ∷ ys) n = over (largest_from f ys (max n (f y)))
  where
    most : ℕ
    most = fold (λ r x. max r (f x)) (max n (f y)) ys

    over : (max n (f y) ≤ fold (λ r x. max r (f x)) (max n (f y)) ys) × ((x : A) → In ys x → f x ≤ fold (λ r x. max r (f x)) (max n (f y)) ys)
        → (n ≤ fold (λ r x. max r (f x)) (max n (f y)) ys) × ((x : A) → (y ≡ x) ⊎ In ys x → f x ≤ fold (λ r x. max r (f x)) (max n (f y)) ys)
    over all = (
      let le = all.0 in omega (arith, le),
      λ x at. elim at [
        | inl is ↦ subst (λ (z : A). f z ≤ fold (λ r x. max r (f x)) (max n (f y)) ys) is (let le = all.0 in omega (arith, le))
        | inr there ↦ all.1 x there
      ],
    )

some_of : {A : Type 0} (o : Option A) → is_some o ≡ true → (x : A) × (o ≡ Some x)
some_of None is = absurd (cc is)
some_of (Some x) is = (x, refl)

begun_up : (g : Stage) → is_begun g ≡ true → is_up g ≡ true
begun_up Stage.Begun is = refl
begun_up Stage.Between is = absurd (cc is)
begun_up Stage.Running is = absurd (cc is)
begun_up (Stage.Scavenging w) is = absurd (cc is)
begun_up (Stage.CutShort p) is = absurd (cc is)

pub found_fair : (s : Setup) (m : Machine) (rows : List FoundRow) (entries : List EntryRow) → IsTrue (may_list s m rows entries) → IsFair s m → IsFair s (after_found s m rows)
found_fair s m rows entries may fair = record {
  proper = thinner_proper s m (after_found s m rows) thin fair.proper;
  fits = fair.fits;
  places = λ up. places;
  begun = λ begun. absurd (cc begun);
  serving = λ running. record {
    below = all_of (λ d. d.which.id < largest_id kept m.index + 1) (of_kept kept ++ of_index m.index) below;
    open_dataset = λ d at. absurd (let none = no_work.0 in cc (at, none));
    fetching = λ which at. absurd (let none = no_work.1 in cc (at, none));
  };
  scavenging = λ which at. absurd (cc at);
}
  where
    begun : is_begun m.stage ≡ true
    begun = front (is_begun m.stage) (is_some (kept_after_look s m rows)) (front (is_begun m.stage && is_some (kept_after_look s m rows)) (are_rows_of entries m.index) may)

    no_work : (m.open_dataset ≡ None) × (m.fetching ≡ None)
    no_work = fair.begun begun

    places : IsTrue (are_places s m.places)
    places = fair.places (begun_up m.stage begun)

    looked : (x : List Kept) × (kept_after_look s m rows ≡ Some x)
    looked = some_of (kept_after_look s m rows) (behind (is_begun m.stage) (is_some (kept_after_look s m rows)) (front (is_begun m.stage && is_some (kept_after_look s m rows)) (are_rows_of entries m.index) may))

    found : List Kept
    found = unwrap_or (kept_after_look s m rows) []

    kept : List Kept
    kept = map (kept_taken_up m.places) (unwrap_or (kept_after_look s m rows) [])

    is_found : unwrap_or (kept_after_look s m rows) [] ≡ looked.0
    is_found = ap (λ (o : Option (List Kept)). unwrap_or o []) looked.1

    left : IsLeft s (map (kept_without_all (outside s m)) m.kept) looked.0
    left = looked_left s rows (map (kept_without_all (outside s m)) m.kept) looked.0 looked.1

    left_is : IsLeft s (map (kept_without_all (outside s m)) m.kept) (unwrap_or (kept_after_look s m rows) [])
    left_is = subst (λ (ks : List Kept). IsLeft s (map (kept_without_all (outside s m)) m.kept) ks) (sym is_found) left

    thin : Thinner s m (after_found s m rows)
    thin = record {
      kept = subst (λ (ds : List Dataset). Thins ds (of_kept (map (kept_taken_up m.places) (unwrap_or (kept_after_look s m rows) [])))) (same_kept (kept_without_all (outside s m)) (same_without_all (outside s m)) m.kept)
          (subst (λ (ds : List Dataset). Thins (of_kept (map (kept_without_all (outside s m)) m.kept)) ds) (sym (same_kept (kept_taken_up m.places) (same_taken_up m.places) (unwrap_or (kept_after_look s m rows) []))) left_is.thin);
      index = thins_self (of_index m.index);
      run = omega arith;
      held = λ held. held_all s (kept_taken_up m.places) (λ k is. held_taken_up s m.places k places is) (unwrap_or (kept_after_look s m rows) [])
          (left_is.held (held_all s (kept_without_all (outside s m)) (held_without_all s (outside s m)) m.kept held));
    }

    below : (d : Dataset) → In (of_kept kept ++ of_index m.index) d → d.which.id < largest_id kept m.index + 1
    below d at = elim (in_either (of_kept kept) (of_index m.index) d at) [
      | inl there ↦ let k = in_map (λ (x : Kept). x.dataset) kept d there in
          subst (λ (x : Dataset). x.which.id < largest_id kept m.index + 1) k.2 (first (let all = largest_from (λ (x : Kept). x.dataset.which.id) kept 0 in all.1 k.0 k.1))
      | inr there ↦ let e = in_map (λ (x : Entry). x.dataset) m.index d there in
          subst (λ (x : Dataset). x.which.id < largest_id kept m.index + 1) e.2 (second (let all = largest_from (λ (x : Entry). x.dataset.which.id) m.index 0 in all.1 e.0 e.1))
    ]
      where
        first : {i : ℕ} → i ≤ fold (λ n k. max n k.dataset.which.id) 0 kept → i < largest_id kept m.index + 1
        first le = omega (arith, le)

        second : {i : ℕ} → i ≤ fold (λ n e. max n e.dataset.which.id) 0 m.index → i < largest_id kept m.index + 1
        second le = omega (arith, le)
