-- A dataset that is sealed comes in among those that are kept, and an entry among those of the index.
use Rattle.std.proofs.Common.{◌≡◌, ◌≢◌, ◌⊎◌, inl, inr, ◌<◌, ℕ, Bool, true, false, List, [], ◌∷◌, Option, Some, None, refl, sym, ◌∙◌, ap, subst}
use Rattle.std.specs.Prelude.{IsTrue, ◌||◌, find, nat_lt, option_map, option_and_then, unwrap_or, if◌then◌else◌}
use Rattle.std.specs.List.{list_any}
use Rattle.scr_base.specs.declared.shape.DataId.{DataId}
use Rattle.scr_base.specs.declared.content.Step.{Step}
use Rattle.scr_base.specs.declared.content.Step.TheVariants as step
use Rattle.scr_base.specs.Same.{same_id}
use Rattle.ckpt_model.specs.Dataset.{Dataset}
use Rattle.ckpt_model.specs.Machine.{Machine, Setup, Kept, Entry, EntryMark, Stage}
use Rattle.ckpt_model.specs.Questions.{is_id_of, is_entry_of, is_kept, is_indexed, kept_of, entry_of, is_running, is_full, first_call, all_valid}
use Rattle.ckpt_model.specs.Steps.{add_kept, add_entry, kept_sealing, add_sealing, to_be_sealed, sealing_dataset, after_sealing, add_indexing, after_indexing, are_places, is_begun}
use Rattle.ckpt_model.specs.Commands.{entry_from, add_taken}
use Rattle.ckpt_model.specs.Proper.{IsProper, AreApart, is_of_site, datasets}
use Rattle.ckpt_model.proofs.ShowsLemmas.{mapped}
use Rattle.model_proper.specs.Fair.{IsFair, IsServing, IsNew, IsOther, is_up}
use Rattle.model_proper.proofs.Lists.{In, in_left, in_right, in_either, map_in, each_of, all_of, insert, insert_in, insert_rises, id_of}
use Rattle.model_proper.proofs.Fair.Passes.{of_kept, of_index, IsHeld, IsProperBy, by_proper, proper_by, not_kept_each, not_indexed_each, passes_fair, like_self}
use Rattle.model_proper.proofs.Kept.Held.{held_at}

-- what is found is in the list, and passes
pub find_in : {A : Type 0} (t : A → Bool) (xs : List A) (x : A) → find t xs ≡ Some x → In xs x × (t x ≡ true)
find_in t [] x is = absurd (cc is)
find_in {A = A} t (y ∷ ys) x is = split (t y) refl is (find_in t ys x)
  where
    split : (b : Bool) → t y ≡ b → (if b then Some y else find t ys) ≡ Some x → (find t ys ≡ Some x → In ys x × (t x ≡ true)) → In (y ∷ ys) x × (t x ≡ true)
    split true passes there go = let same : y ≡ x = cc there in (inl same, subst (λ (z : A). t z ≡ true) same passes)
    split false passes there go = let from = go there in (inr from.0, from.1)

pub find_none : {A : Type 0} (t : A → Bool) (xs : List A) → find t xs ≡ None → (x : A) → In xs x → t x ≡ false
find_none t [] none x at = absurd at
find_none {A = A} t (y ∷ ys) none x at = split (t y) refl none at (λ rest there. find_none t ys rest x there)
  where
    split : (b : Bool) → t y ≡ b → (if b then Some y else find t ys) ≡ None → (y ≡ x) ⊎ In ys x → (find t ys ≡ None → In ys x → t x ≡ false) → t x ≡ false
    split true is rest at go = absurd (cc rest)
    split false is rest (inl same) go = subst (λ (z : A). t z ≡ false) same is
    split false is rest (inr there) go = go rest there

-- ## As lists of datasets

pub kept_insert : (k : Kept) (ks : List Kept) → of_kept (add_kept k ks) ≡ insert k.dataset (of_kept ks)
kept_insert k [] = refl
kept_insert k (x ∷ xs) = split (nat_lt x.dataset.which.id k.dataset.which.id) (kept_insert k xs)
  where
    split : (b : Bool) → of_kept (add_kept k xs) ≡ insert k.dataset (of_kept xs) → of_kept (if b then x ∷ add_kept k xs else k ∷ x ∷ xs) ≡ (if b then x.dataset ∷ insert k.dataset (of_kept xs) else k.dataset ∷ x.dataset ∷ of_kept xs)
    split true rest = ap (λ (ds : List Dataset). x.dataset ∷ ds) rest
    split false rest = refl

pub index_insert : (e : Entry) (es : List Entry) → of_index (add_entry e es) ≡ insert e.dataset (of_index es)
index_insert e [] = refl
index_insert e (x ∷ xs) = split (nat_lt x.dataset.which.id e.dataset.which.id) (index_insert e xs)
  where
    split : (b : Bool) → of_index (add_entry e xs) ≡ insert e.dataset (of_index xs) → of_index (if b then x ∷ add_entry e xs else e ∷ x ∷ xs) ≡ (if b then x.dataset ∷ insert e.dataset (of_index xs) else e.dataset ∷ x.dataset ∷ of_index xs)
    split true rest = ap (λ (ds : List Dataset). x.dataset ∷ ds) rest
    split false rest = refl

pub add_in : (k : Kept) (ks : List Kept) (x : Kept) → In (add_kept k ks) x → (k ≡ x) ⊎ In ks x
add_in k [] x at = at
add_in k (y ∷ ys) x at = split (nat_lt y.dataset.which.id k.dataset.which.id) at (add_in k ys x)
  where
    over : (k ≡ x) ⊎ In ys x → (k ≡ x) ⊎ ((y ≡ x) ⊎ In ys x)
    over (inl is) = inl is
    over (inr is) = inr (inr is)

    split : (b : Bool) → In (if b then y ∷ add_kept k ys else k ∷ y ∷ ys) x → (In (add_kept k ys) x → (k ≡ x) ⊎ In ys x) → (k ≡ x) ⊎ ((y ≡ x) ⊎ In ys x)
    split true (inl is) go = inr (inl is)
    split true (inr there) go = over (go there)
    split false at go = at

pub in_add : (k : Kept) (ks : List Kept) (x : Kept) → (k ≡ x) ⊎ In ks x → In (add_kept k ks) x
in_add k [] x at = at
in_add k (y ∷ ys) x at = split (nat_lt y.dataset.which.id k.dataset.which.id) at (in_add k ys x)
  where
    split : (b : Bool) → (k ≡ x) ⊎ ((y ≡ x) ⊎ In ys x) → ((k ≡ x) ⊎ In ys x → In (add_kept k ys) x) → In (if b then y ∷ add_kept k ys else k ∷ y ∷ ys) x
    split true (inl is) go = inr (go (inl is))
    split true (inr (inl is)) go = inl is
    split true (inr (inr there)) go = inr (go (inr there))
    split false at go = at

apart_back : (d e : Dataset) → AreApart d e → AreApart e d
apart_back d e (inl is) = inl (sym is)
apart_back d e (inr other) = inr (λ is. other.0 (sym is), λ is. other.1 (sym is))

-- ## Sealing

-- the dataset may come in: of the site, apart from all, and with none of its id kept
pub record MayCome (s : Setup) (m : Machine) (d : Dataset) : Type 0 where
  pub of_site : IsTrue (is_of_site s m.run d)
  pub below : d.which.id < m.next
  pub apart : (e : Dataset) → In (datasets m) e → AreApart d e
  pub free : (e : Dataset) → In (of_kept m.kept) e → id_of d ≢ id_of e

sealing_in : (m : Machine) (d x : Dataset) → In (datasets (add_sealing m d)) x → (d ≡ x) ⊎ In (datasets m) x
sealing_in m d x at = elim (in_either (of_kept (add_sealing m d).kept) (of_index m.index) x at) [
  | inl there ↦ over (insert_in d (of_kept m.kept) x (subst (λ (ds : List Dataset). In ds x) (kept_insert (kept_sealing m.places d) m.kept) there))
  | inr there ↦ inr (in_right (of_kept m.kept) (of_index m.index) x there)
]
  where
    over : (d ≡ x) ⊎ In (of_kept m.kept) x → (d ≡ x) ⊎ In (datasets m) x
    over (inl is) = inl is
    over (inr is) = inr (in_left (of_kept m.kept) (of_index m.index) x is)

pub sealing_proper : (s : Setup) (m : Machine) (d : Dataset) → IsTrue (are_places s m.places) → MayCome s m d → IsProper s m → IsProper s (add_sealing m d)
sealing_proper s m d places come proper =
    let by = by_proper s m proper in
    proper_by s (add_sealing m d) (record {
      apart = λ x y x_in y_in. apart by x y (sealing_in m d x x_in) (sealing_in m d y y_in);
      of_site = λ x x_in. elim (sealing_in m d x x_in) [ inl is ↦ subst (λ (z : Dataset). IsTrue (is_of_site s m.run z)) is come.of_site | inr there ↦ by.of_site x there ];
      kept_rise = subst (λ (ds : List Dataset). IsTrue (Rattle.ckpt_model.specs.Proper.ids_rise ds)) (sym (kept_insert (kept_sealing m.places d) m.kept)) (insert_rises d (of_kept m.kept) come.free by.kept_rise);
      index_rise = by.index_rise;
      held = λ k at. elim (add_in (kept_sealing m.places d) m.kept k at) [ inl is ↦ subst (λ (z : Kept). IsHeld s z) is (held_at s m.places (kept_sealing m.places d) places refl) | inr there ↦ by.held k there ];
    })
  where
    apart : IsProperBy s m → (x y : Dataset) → (d ≡ x) ⊎ In (datasets m) x → (d ≡ y) ⊎ In (datasets m) y → AreApart x y
    apart by x y (inl x_is) (inl y_is) = inl (sym x_is ∙ y_is)
    apart by x y (inl x_is) (inr y_in) = subst (λ (z : Dataset). AreApart z y) x_is (come.apart y y_in)
    apart by x y (inr x_in) (inl y_is) = subst (λ (z : Dataset). AreApart x z) y_is (apart_back d x (come.apart x x_in))
    apart by x y (inr x_in) (inr y_in) = by.apart x y x_in y_in

running_up : (g : Stage) → is_running g ≡ true → is_up g ≡ true
running_up Stage.Running is = refl
running_up Stage.Between is = absurd (cc is)
running_up Stage.Begun is = absurd (cc is)
running_up (Stage.Scavenging w) is = absurd (cc is)
running_up (Stage.CutShort p) is = absurd (cc is)

running_not_begun : (g : Stage) → is_running g ≡ true → is_begun g ≡ true → ⊥
running_not_begun Stage.Running is begun = cc begun
running_not_begun Stage.Between is begun = cc is
running_not_begun Stage.Begun is begun = cc is
running_not_begun (Stage.Scavenging w) is begun = cc is
running_not_begun (Stage.CutShort p) is begun = cc is

running_no_scavenge : (g : Stage) (which : DataId) → is_running g ≡ true → g ≡ Stage.Scavenging which → ⊥
running_no_scavenge g which is at = cc (ap is_running at, is)

pub running_places : (s : Setup) (m : Machine) → is_running m.stage ≡ true → IsFair s m → IsTrue (are_places s m.places)
running_places s m running fair = fair.places (running_up m.stage running)

-- a fair state while calls come, from a proper one and what holds then
pub serving_fair : (s : Setup) (m n : Machine) → is_running m.stage ≡ true → n.stage ≡ m.stage → n.places ≡ m.places → IsFair s m → IsProper s n → IsServing s n → IsFair s n
serving_fair s m n running stage places fair proper serving = record {
  proper = proper;
  fits = fair.fits;
  places = λ up. subst (λ (x : List ℕ). IsTrue (are_places s x)) (sym places) (running_places s m running fair);
  begun = λ begun. absurd (running_not_begun m.stage running (sym (ap is_begun stage) ∙ begun));
  serving = λ now. serving;
  scavenging = λ which at. absurd (running_no_scavenge m.stage which running (sym stage ∙ at));
}

pub add_sealing_fair : (s : Setup) (m : Machine) (d : Dataset) → is_running m.stage ≡ true → MayCome s m d → IsFair s m → IsFair s (add_sealing m d)
add_sealing_fair s m d running come fair =
    let serving = fair.serving running in
    serving_fair s m (add_sealing m d) running refl refl fair (sealing_proper s m d (running_places s m running fair) come fair.proper) (record {
      below = all_of (λ x. x.which.id < m.next) (datasets (add_sealing m d)) (λ x at. elim (sealing_in m d x at) [ inl is ↦ subst (λ (z : Dataset). z.which.id < m.next) is come.below | inr there ↦ each_of (λ z. z.which.id < m.next) (datasets m) serving.below x there ]);
      open_dataset = λ x at. absurd (cc at);
      fetching = λ which at. absurd (cc at);
    })

-- ## Which dataset is sealed

pub new_comes : (s : Setup) (m : Machine) (d : Dataset) → IsNew s m d → MayCome s m d
new_comes s m d is = record {
  of_site = is.of_site;
  below = is.below;
  apart = λ e at. inr (each_of (IsOther d) (datasets m) is.others e at);
  free = λ e at. let other = each_of (IsOther d) (datasets m) is.others e (in_left (of_kept m.kept) (of_index m.index) e at) in other.0;
}

-- an entry's dataset that isn't kept
pub entry_comes : (s : Setup) (m : Machine) (which : DataId) (e : Entry) → IsProper s m → IsServing s m → is_kept m which ≡ false → entry_of m which ≡ Some e → MayCome s m e.dataset
entry_comes s m which e proper serving not_kept found =
    record {
      of_site = by.of_site e.dataset there;
      below = each_of (λ z. z.which.id < m.next) (datasets m) serving.below e.dataset there;
      apart = λ x at. by.apart e.dataset x there at;
      free = λ x at. free x at (by.apart e.dataset x there (in_left (of_kept m.kept) (of_index m.index) x at));
    }
  where
    by : IsProperBy s m
    by = by_proper s m proper

    at_entry : In m.index e × (is_entry_of which e ≡ true)
    at_entry = find_in (is_entry_of which) m.index e found

    there : In (datasets m) e.dataset
    there = in_right (of_kept m.kept) (of_index m.index) e.dataset (map_in (λ (x : Entry). x.dataset) m.index e at_entry.0)

    free : (x : Dataset) → In (of_kept m.kept) x → AreApart e.dataset x → id_of e.dataset ≢ id_of x
    free x at (inl same) = absurd (let passes = at_entry.1 in let none = not_kept_each m which not_kept x at in let now : same_id x.which which ≡ true = subst (λ (z : Dataset). same_id z.which which ≡ true) same passes in cc (none, now))
    free x at (inr other) = other.0

sealed_comes : (s : Setup) (m : Machine) (call : Step) (d : Dataset) → to_be_sealed s m call ≡ Some d → IsProper s m → IsServing s m → MayCome s m d
sealed_comes s m (step.Complete valid) d is proper serving = split (all_valid m) is
  where
    split : (b : Bool) → (if b then m.open_dataset else None) ≡ Some d → MayCome s m d
    split true at = new_comes s m d (serving.open_dataset d at)
    split false at = absurd (cc at)
sealed_comes s m step.Restart d is proper serving = split (is_full s m) is
  where
    of_fetched : (o : Option DataId) → m.fetching ≡ o → (e : Entry) → option_and_then (entry_of m) o ≡ Some e → MayCome s m e.dataset
    of_fetched None at e found = absurd (cc found)
    of_fetched (Some which) at e found = entry_comes s m which e proper serving (serving.fetching which at).0 found

    split : (b : Bool) → (if b then None else option_map (λ e. e.dataset) (option_and_then (entry_of m) m.fetching)) ≡ Some d → MayCome s m d
    split true at = absurd (cc at)
    split false at = let from = mapped (λ (e : Entry). e.dataset) (option_and_then (entry_of m) m.fetching) d at in
        subst (λ (x : Dataset). MayCome s m x) (sym from.2) (of_fetched m.fetching refl from.0 from.1)
sealed_comes s m _ d is proper serving = absurd (cc is)

pub sealing_comes : (s : Setup) (m : Machine) (d : Dataset) → sealing_dataset s m ≡ Some d → IsProper s m → IsServing s m → MayCome s m d
sealing_comes s m d is proper serving = pick (first_call m) is
  where
    pick : (o : Option Step) → option_and_then (to_be_sealed s m) o ≡ Some d → MayCome s m d
    pick None at = absurd (cc at)
    pick (Some call) at = sealed_comes s m call d at proper serving

pub sealing_fair : (s : Setup) (m : Machine) → is_running m.stage ≡ true → IsFair s m → IsFair s (after_sealing s m)
sealing_fair s m running fair = pick (sealing_dataset s m) refl
  where
    pick : (o : Option Dataset) → sealing_dataset s m ≡ o → IsFair s (unwrap_or (option_map (add_sealing m) o) m)
    pick None at = fair
    pick (Some d) at = add_sealing_fair s m d running (sealing_comes s m d at fair.proper (fair.serving running)) fair

-- ## Indexing

abbrev pub with_entry : EntryMark → Machine → Kept → Machine
with_entry mark m k = record m { index = add_entry (record { dataset = k.dataset; mark = mark }) m.index }

entry_in : (mark : EntryMark) (m : Machine) (k : Kept) → In m.kept k → (x : Dataset) → In (datasets (with_entry mark m k)) x → In (datasets m) x
entry_in mark m k k_in x at = elim (in_either (of_kept m.kept) (of_index (with_entry mark m k).index) x at) [
  | inl there ↦ in_left (of_kept m.kept) (of_index m.index) x there
  | inr there ↦ over (insert_in k.dataset (of_index m.index) x (subst (λ (ds : List Dataset). In ds x) (index_insert (record { dataset = k.dataset; mark = mark }) m.index) there))
]
  where
    over : (k.dataset ≡ x) ⊎ In (of_index m.index) x → In (datasets m) x
    over (inl is) = subst (λ (z : Dataset). In (datasets m) z) is (in_left (of_kept m.kept) (of_index m.index) k.dataset (map_in (λ (y : Kept). y.dataset) m.kept k k_in))
    over (inr is) = in_right (of_kept m.kept) (of_index m.index) x is

pub entry_proper : (s : Setup) (mark : EntryMark) (m : Machine) (which : DataId) (k : Kept) → In m.kept k → is_id_of which k ≡ true → is_indexed m which ≡ false → IsProper s m → IsProper s (with_entry mark m k)
entry_proper s mark m which k k_in is_it none proper =
    proper_by s (with_entry mark m k) (record {
      apart = λ x y x_in y_in. by.apart x y (from x x_in) (from y y_in);
      of_site = λ x x_in. by.of_site x (from x x_in);
      kept_rise = by.kept_rise;
      index_rise = subst (λ (ds : List Dataset). IsTrue (Rattle.ckpt_model.specs.Proper.ids_rise ds)) (sym (index_insert (record { dataset = k.dataset; mark = mark }) m.index)) (insert_rises k.dataset (of_index m.index) (λ x at. free x at (by.apart k.dataset x there (in_right (of_kept m.kept) (of_index m.index) x at))) by.index_rise);
      held = by.held;
    })
  where
    by : IsProperBy s m
    by = by_proper s m proper

    from : (x : Dataset) → In (datasets (with_entry mark m k)) x → In (datasets m) x
    from = entry_in mark m k k_in

    there : In (datasets m) k.dataset
    there = in_left (of_kept m.kept) (of_index m.index) k.dataset (map_in (λ (y : Kept). y.dataset) m.kept k k_in)

    free : (x : Dataset) → In (of_index m.index) x → AreApart k.dataset x → id_of k.dataset ≢ id_of x
    free x at (inl same) = absurd (let not_it = not_indexed_each m which none x at in let now : same_id x.which which ≡ true = subst (λ (z : Dataset). same_id z.which which ≡ true) same is_it in cc (not_it, now))
    free x at (inr other) = other.0

pub taken_proper : (s : Setup) (mark : EntryMark) (m : Machine) (which : DataId) → is_indexed m which ≡ false → IsProper s m → IsProper s (add_taken mark m which)
taken_proper s mark m which none proper = pick (kept_of m which) refl
  where
    pick : (o : Option Kept) → kept_of m which ≡ o → IsProper s (unwrap_or (option_map (entry_from mark m) o) m)
    pick None at = proper
    pick (Some k) at = let found = find_in (is_id_of which) m.kept k at in entry_proper s mark m which k found.0 found.1 none proper

-- an entry more takes none away
more : (e : Entry) (es : List Entry) (w : DataId) → list_any (is_entry_of w) es ≡ true → list_any (is_entry_of w) (add_entry e es) ≡ true
more e [] w is = absurd (cc is)
more e (y ∷ ys) w is = split (nat_lt y.dataset.which.id e.dataset.which.id) (more e ys w)
  where
    over : (a b c : Bool) → a || b ≡ true → (b ≡ true → c ≡ true) → a || c ≡ true
    over true b c is go = refl
    over false b c is go = go is

    late : (a b : Bool) → b ≡ true → a || b ≡ true
    late true b is = refl
    late false b is = is

    split : (b : Bool) → (list_any (is_entry_of w) ys ≡ true → list_any (is_entry_of w) (add_entry e ys) ≡ true) → list_any (is_entry_of w) (if b then y ∷ add_entry e ys else e ∷ y ∷ ys) ≡ true
    split true go = over (is_entry_of w y) (list_any (is_entry_of w) ys) (list_any (is_entry_of w) (add_entry e ys)) is go
    split false go = late (is_entry_of w e) (is_entry_of w y || list_any (is_entry_of w) ys) is

pub indexing_fair : (s : Setup) (m : Machine) (which : DataId) → is_running m.stage ≡ true → is_indexed m which ≡ false → IsFair s m → IsFair s (after_indexing m which)
indexing_fair s m which running none fair = pick (kept_of m which) refl
  where
    pick : (o : Option Kept) → kept_of m which ≡ o → IsFair s (unwrap_or (option_map (add_indexing m) o) m)
    pick None at = fair
    pick (Some k) at = let found = find_in (is_id_of which) m.kept k at in passes_fair s m (with_entry EntryMark.Indexing m k) (record {
      proper = entry_proper s EntryMark.Indexing m which k found.0 found.1 none;
      within = entry_in EntryMark.Indexing m k found.0;
      kept_within = λ x x_in. x_in;
      scavenging = λ w at none. absurd (running_no_scavenge m.stage w running at);
      listed = λ now w is. more (record { dataset = k.dataset; mark = EntryMark.Indexing }) m.index w is;
      stage = refl;
      run = refl;
      next = refl;
      places = refl;
      open_dataset = λ d d_at. (d, d_at, like_self d);
      fetching = λ w w_at. w_at;
    }) fair
