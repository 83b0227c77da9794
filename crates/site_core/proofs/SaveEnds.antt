-- The saving of a dataset begins, is told to be sealing, and is told to be settled.
use Rattle.std.proofs.Common.{◌≡◌, ◌≢◌, ◌⊎◌, inl, inr, ℕ, zero, suc, ◌+◌, ◌<◌, ◌≤◌, Bool, true, false, List, [], ◌∷◌, ◌++◌, length, map, Option, Some, None, refl, sym, ap, ◌∙◌, subst, slice_get, arith}
use Rattle.std.specs.Prelude.{IsTrue, slice_index, ◌==◌, ◌&&◌, ◌||◌, nat_lt, nat_le, if◌then◌else◌}
use Rattle.std.specs.List.{list_any, list_all}
use Rattle.std.proofs.lemmas.Bool.{cases_eq}
use Rattle.std.proofs.lemmas.Bool.Decides.{nat_tests}
use Rattle.std.proofs.lemmas.Option.{slice_get-get_or}
use Rattle.std.proofs.lemmas.List.FromFn.{length-range_with_len, get_or-range_with_len}
use Rattle.scr_base.specs.Sets.{numbers_below}
use Rattle.scr_base.specs.Same.{same_id}
use Rattle.scr_base.specs.declared.shape.DataId.{DataId}
use Rattle.scr_base.specs.declared.content.Step.{Step}
use Rattle.node_device.specs.File.{IsAtRest}
use Rattle.node_device.specs.DeviceState.{DeviceState}
use Rattle.node_device.specs.Rack.{OnlyAt}
use Rattle.dataset_desc.specs.declared.desc.Desc.{Desc}
use Rattle.member_store.specs.Names.{record_name, IsPlace}
use Rattle.gate_outcomes.proofs.Stays.{rest_shut}
use Rattle.ckpt_model.specs.declared.event.Event.{Event}
use Rattle.ckpt_model.specs.declared.event.Event.TheVariants as event
use Rattle.ckpt_model.specs.Machine.{Machine}
use Rattle.ckpt_model.proofs.RunLemmas.{run_on}
use Rattle.ckpt_model.proofs.SameLemmas.{id-same}
use Rattle.site_state.specs.declared.cache.Cached.{Cached}
use Rattle.site_state.specs.declared.cache.Manifest.{Manifest}
use Rattle.site_state.specs.Cores.{sealed_core, sealing_one, settled_core}
use Rattle.site_state.specs.declared.cache.Mark.TheVariants as mark
use Rattle.site_state.specs.declared.run_state.RunState.{RunState}
use Rattle.site_state.specs.declared.run_state.RunStage.{RunStage}
use Rattle.site_state.specs.declared.run_state.RunStage.TheVariants as stage
use Rattle.site_state.specs.declared.run_state.SaveStep.{SaveStep}
use Rattle.site_state.specs.declared.run_state.SaveStep.TheVariants as work
use Rattle.site_state.specs.Shown.{running, setup_of, mends, come_to, settled_if}
use Rattle.site_state.specs.Choosing.{is_being_sealed, seals, AscendFrom, AreBelow}
use Rattle.site_calls.specs.Calls.{Synced}
use Rattle.site_core.specs.Stored.{Cells, cells_of, contents_of, RecordIs, RecordsStand, IsKnown, IsWell, FilesHold}
use Rattle.site_core.specs.Left.{is_sealing_work}
use Rattle.site_core.specs.Holds.{Leads, IsSaved, RecordAt, IsPending, IsFileOf, WorkIs, NoRecordYet}
use Rattle.site_state.specs.Asked.{IsSaveRound}
use Rattle.site_core.proofs.Told.{is_up, led, leads_up, tells_more}
use Rattle.site_core.proofs.Frames.{is_place, file_no_record}
use Rattle.site_state.proofs.Shapes.{few_nodes}
use Rattle.site_core.proofs.Puts.{kept_other}
use Rattle.site_core.proofs.RecordFiles.{alike_cells, synced_rest, node_small}
use Rattle.site_core.proofs.Saving.{place_of_node}
use Rattle.site_core.proofs.LeftFiles.{none_shut}
use Rattle.site_core.specs.Holds.{IsSaving}
use Rattle.site_state.proofs.Seals.{sealing, settles}

some_same : {X : Type 0} (x y : X) → Some x ≡ Some y → x ≡ y
some_same x y e = cc

or-parts : (a b : Bool) → a || b ≡ false → (a ≡ false) × (b ≡ false)
or-parts true b e = absurd (cc e)
or-parts false b e = (refl, e)

-- what no element passes
pub none-passes : (test : Cached → Bool) (xs : List Cached) (i : ℕ) (x : Cached) → list_any test xs ≡ false → slice_get xs i ≡ Some x → test x ≡ false
none-passes test [] i x e at = absurd (cc at)
none-passes test (y ∷ ys) zero x e at = ap test (sym (some_same y x at)) ∙ (or-parts (test y) (list_any test ys) e).0
none-passes test (y ∷ ys) (suc i) x e at = none-passes test ys i x (or-parts (test y) (list_any test ys) e).1 at

or-true : (a b : Bool) → b ≡ true → a || b ≡ true
or-true true b e = refl
or-true false b e = e

one-passes : (test : Cached → Bool) (xs : List Cached) (i : ℕ) (x : Cached) → slice_get xs i ≡ Some x → test x ≡ true → list_any test xs ≡ true
one-passes test [] i x at e = absurd (cc at)
one-passes test (y ∷ ys) zero x at e = ap (λ (b : Bool). b || list_any test ys) (ap test (some_same y x at) ∙ e)
one-passes test (y ∷ ys) (suc i) x at e = or-true (test y) _ (one-passes test ys i x at e)

-- ## The beginning

pub begins_saving : (first : Machine) (c : RunState) (programs : List (List Step)) (states : ℕ → DeviceState) (events : List Event) (m : Manifest) → c.stage ≡ stage.Serving → Leads first c programs states events → c.opened ≡ Some m → IsSaveRound c
    → 0 < c.shape.nodes → IsSaving first c programs states events work.Record 0 m
begins_saving first c programs states events m at leads opened round some =
    let h = led first c programs states events (ap is_up at) leads in
    let working : WorkIs stage.Serving c states = subst (λ (s : RunStage). WorkIs s c states) at h.working in
    let none : NoRecordYet stage.Serving c (cells_of states) = subst (λ (s : RunStage). NoRecordYet s c (cells_of states)) at h.unrecorded in
    let quiet = subst (λ (s : RunStage). (p : ℕ) (q : List ℕ) → p ≤ 32 → (p < c.shape.nodes → IsPending s c q → ⊥) → IsAtRest ((states p).file q)) at h.quiet in
    record {
      run = h.run;
      so_far = h.so_far;
      well = h.well;
      files = h.files;
      quiet = λ p q low calm. quiet p q low (λ node pending. calm node (pending.0, inl pending.1, inl pending.2));
      saved = inl opened;
      saves = record {
        round = round;
        below = some;
        open_yet = λ early. opened;
        apart = λ i x is sealed. kept_other c m x.manifest h.well opened (i, x, is, refl);
        one = λ i x is sealed. absurd (cc (none-passes seals c.kept i x working.1 is, sealed));
        records = λ node p home. subst (λ (b : Bool). RecordAt b (((states p).file (record_name m.desc.which node)).now) m node false false) (sym (none_below node)) (none m opened p node (low h.well node p home) (is_place m.desc node (node_small c node p h.well home)));
        clean = λ node p home written. quiet p (record_name m.desc.which node) (omega (arith, low h.well node p home)) (λ on pending. no_file h.well node p home pending);
        quiet = λ node p q home calm. absurd (cc (all_pending node, calm));
        leaves = record {
          elsewhere = λ p node lt at off. quiet p (record_name m.desc.which node) (omega (arith, lt)) (λ on pending. no_record_file node at pending);
          parts = λ node p q home calm other. absurd (cc (all_pending node, calm));
          unsealed = λ is node p home. rest_shut ((states p).file (record_name m.desc.which node)) 1
              (quiet p (record_name m.desc.which node) (omega (arith, low h.well node p home)) (λ on pending. no_file h.well node p home pending))
              (none_shut (cells_of states p (record_name m.desc.which node)) 1 (none m opened p node (low h.well node p home) (is_place m.desc node (node_small c node p h.well home))));
          whole = λ late. absurd (cc late);
        };
      };
      mended = working.0;
    } where
      none_below : (node : ℕ) → nat_lt node 0 ≡ false
      none_below node = grind (arith, nat_tests)

      all_pending : (node : ℕ) → nat_le 0 node ≡ true
      all_pending node = grind (arith, nat_tests)

      low : IsWell c → (node p : ℕ) → slice_get c.places node ≡ Some p → p < 32
      low well node p home = let at = place_of_node c node p well home in omega (arith, at.0, at.1, few_nodes c.shape)

      no_record_file : (node : ℕ) → IsPlace m.desc.which node → ((x : Manifest) × (c.opened ≡ Some x) × IsFileOf c x (record_name m.desc.which node)) → ⊥
      no_record_file node at pending =
          let x = pending.0 in
          let file = pending.2 in
          let of = is_place x.desc 0 (omega arith) in
          file_no_record x.desc.which m.desc.which c.shape.ranks file.0 file.1 node (record { id = of.id; run = of.run; rank_is = file.2; file = file.3 }) at (sym file.4)

      no_file : IsWell c → (node p : ℕ) → slice_get c.places node ≡ Some p → ((x : Manifest) × (c.opened ≡ Some x) × IsFileOf c x (record_name m.desc.which node)) → ⊥
      no_file well node p home pending = no_record_file node (is_place m.desc node (node_small c node p well home)) pending

-- ## The sealing

-- the last of a longer list, or one of the others
last-or-before : (xs : List Cached) (x y : Cached) (i : ℕ) → slice_get (xs ++ x ∷ []) i ≡ Some y → (slice_get xs i ≡ Some y) ⊎ (x ≡ y)
last-or-before [] x y zero at = inr (some_same x y at)
last-or-before [] x y (suc i) at = absurd (cc at)
last-or-before (z ∷ zs) x y zero at = inl at
last-or-before (z ∷ zs) x y (suc i) at = last-or-before zs x y i at

last-at : (xs : List Cached) (x : Cached) → slice_get (xs ++ x ∷ []) (length xs) ≡ Some x
last-at [] x = refl
last-at (z ∷ zs) x = last-at zs x

before-at : (xs : List Cached) (x y : Cached) (i : ℕ) → slice_get xs i ≡ Some y → slice_get (xs ++ x ∷ []) i ≡ Some y
before-at [] x y i at = absurd (cc at)
before-at (z ∷ zs) x y zero at = at
before-at (z ∷ zs) x y (suc i) at = before-at zs x y i at

ascend-push : (low : ℕ) (xs : List Cached) (x : Cached) → low ≤ x.manifest.desc.which.id → AreBelow x.manifest.desc.which.id xs → AscendFrom low xs → AscendFrom low (xs ++ x ∷ [])
ascend-push low [] x le below rise = (le, tt)
ascend-push low (y ∷ ys) x le below rise = (rise.0, ascend-push (y.manifest.desc.which.id + 1) ys x (omega (arith, below.0)) below.1 rise.1)

below-push : (n : ℕ) (xs : List Cached) (x : Cached) → x.manifest.desc.which.id < n → AreBelow n xs → AreBelow n (xs ++ x ∷ [])
below-push n [] x lt below = (lt, tt)
below-push n (y ∷ ys) x lt below = (below.0, below-push n ys x lt below.1)

any-push : (test : Cached → Bool) (xs : List Cached) (x : Cached) → list_any test xs ≡ false → test x ≡ false → list_any test (xs ++ x ∷ []) ≡ false
any-push test [] x e f = ap (λ (b : Bool). b || false) f
any-push test (y ∷ ys) x e f =
    let parts = or-parts (test y) (list_any test ys) e in
    ap (λ (b : Bool). b || list_any test (ys ++ x ∷ [])) parts.0 ∙ any-push test ys x parts.1 f

id_some : (d : Desc) → 1 ≤ d.which.id
id_some d = grind (arith, nat_tests, d.ranges)

pub seal_told : (first : Machine) (c : RunState) (programs : List (List Step)) (states : ℕ → DeviceState) (events events' : List Event) (w : SaveStep) (n : ℕ) (m : Manifest) → IsSaving first c programs states events w n m → is_sealing_work w ≡ true → c.opened ≡ Some m
    → events' ≡ events ++ event.Sealing m.desc.which ∷ [] → IsSaving first (sealed_core c m) programs states events' w n m
seal_told first c programs states events events' w n m h late opened more =
    let d = sealed_core c m in
    let x = sealing_one m in
    let bytes = contents_of (cells_of states) c in
    record {
      run = run_on (setup_of c) first (running bytes c) (running bytes d) events events' (event.Sealing m.desc.which) more h.run
          (sealing c bytes h.saves.round.valid m h.saves.round.complete h.saves.round.first h.saves.round.clear h.saves.round.all opened (h.well.opened_last m opened));
      so_far = tells_more c.places programs events events' (event.Sealing m.desc.which) more h.so_far tt refl;
      well = record {
        single = h.well.single;
        places = h.well.places;
        rise = ascend-push 1 c.kept x (id_some m.desc) (h.well.opened_last m opened) h.well.rise;
        below = below-push c.next c.kept x (h.well.opened_below m opened) h.well.below;
        sets = λ y known. h.well.sets y (known_before y known);
        opened_run = λ y e. absurd (cc e);
        opened_below = λ y e. absurd (cc e);
        opened_last = λ y e. absurd (cc e);
        output = λ y e. absurd (cc e);
        ranks = h.well.ranks;
      };
      files = record {
        stored = h.files.stored;
        halted = h.files.halted;
        unindexed = h.files.unindexed;
        files = λ y known. h.files.files y (known_before y known);
        records = λ i y at sealed. at_old i y at sealed (last-or-before c.kept x y i at);
        others = λ p which node low at foreign. h.files.others p which node low at (λ y known. foreign y (known_after y known));
        future = h.files.future;
        fresh = λ y e. absurd (cc e);
      };
      quiet = λ p q low calm. h.quiet p q low (λ node pending. calm node (pending.0, saved_after pending.0 pending.1, pending.2));
      saved = inr (refl, (x, length c.kept, last-at c.kept x, refl, refl));
      saves = record {
        round = record { complete = h.saves.round.complete; valid = h.saves.round.valid; first = h.saves.round.first; clear = h.saves.round.clear; all = h.saves.round.all };
        below = h.saves.below;
        open_yet = λ early. absurd (cc (late, early));
        apart = λ i y at sealed. apart_after i y at sealed (last-or-before c.kept x y i at);
        one = λ i y at sealed. one_after i y at sealed (last-or-before c.kept x y i at);
        records = h.saves.records;
        clean = h.saves.clean;
        quiet = h.saves.quiet;
        leaves = record { elsewhere = h.saves.leaves.elsewhere; parts = h.saves.leaves.parts; unsealed = λ e. absurd (cc e); whole = h.saves.leaves.whole };
      };
      mended = any-push mends c.kept x h.mended refl;
    } where
      known_before : (y : Manifest) → IsKnown (sealed_core c m) y → IsKnown c y
      known_before y (inl e) = absurd (cc e)
      known_before y (inr among) = pick (last-or-before c.kept (sealing_one m) among.1 among.0 among.2) where
        pick : (slice_get c.kept among.0 ≡ Some among.1) ⊎ (sealing_one m ≡ among.1) → IsKnown c y
        pick (inl at) = inr (among.0, among.1, at, among.3)
        pick (inr is) = inl (opened ∙ ap (λ (z : Cached). Some z.manifest) is ∙ ap Some among.3)

      known_after : (y : Manifest) → IsKnown c y → IsKnown (sealed_core c m) y
      known_after y (inl e) = inr (length c.kept, sealing_one m, last-at c.kept (sealing_one m), some_same m y (sym opened ∙ e))
      known_after y (inr among) = inr (among.0, among.1, before-at c.kept (sealing_one m) among.1 among.0 among.2, among.3)

      at_old : (i : ℕ) (y : Cached) → slice_get (c.kept ++ sealing_one m ∷ []) i ≡ Some y → is_being_sealed y.mark ≡ false → (slice_get c.kept i ≡ Some y) ⊎ (sealing_one m ≡ y) → RecordsStand (cells_of states) c.places y.manifest
      at_old i y at sealed (inl before) = h.files.records i y before sealed
      at_old i y at sealed (inr is) = absurd (cc (ap (λ (z : Cached). is_being_sealed z.mark) is, sealed))

      saved_after : (y : Manifest) → IsSaved w n c y → IsSaved w n (sealed_core c m) y
      saved_after y (inl e) = inr (refl, (sealing_one m, length c.kept, last-at c.kept (sealing_one m), some_same m y (sym opened ∙ e), refl))
      saved_after y (inr s) = absurd (cc (opened, s.0))

      apart_after : (i : ℕ) (y : Cached) → slice_get (c.kept ++ sealing_one m ∷ []) i ≡ Some y → is_being_sealed y.mark ≡ false → (slice_get c.kept i ≡ Some y) ⊎ (sealing_one m ≡ y) → y.manifest.desc.which ≢ m.desc.which
      apart_after i y at sealed (inl before) = h.saves.apart i y before sealed
      apart_after i y at sealed (inr is) = absurd (cc (ap (λ (z : Cached). is_being_sealed z.mark) is, sealed))

      one_after : (i : ℕ) (y : Cached) → slice_get (c.kept ++ sealing_one m ∷ []) i ≡ Some y → is_being_sealed y.mark ≡ true → (slice_get c.kept i ≡ Some y) ⊎ (sealing_one m ≡ y) → y.manifest ≡ m
      one_after i y at sealed (inl before) = h.saves.one i y before sealed
      one_after i y at sealed (inr is) = ap (λ (z : Cached). z.manifest) (sym is)

-- ## The end

pub settled-at : (which : DataId) (xs : List Cached) (i : ℕ) (y : Cached) → slice_get (map (settled_if which) xs) i ≡ Some y → (x : Cached) × (slice_get xs i ≡ Some x) × (settled_if which x ≡ y)
settled-at which [] i y at = absurd (cc at)
settled-at which (x ∷ xs) zero y at = (x, refl, some_same (settled_if which x) y at)
settled-at which (x ∷ xs) (suc i) y at = settled-at which xs i y at

pub settled-there : (which : DataId) (xs : List Cached) (i : ℕ) (x : Cached) → slice_get xs i ≡ Some x → slice_get (map (settled_if which) xs) i ≡ Some (settled_if which x)
settled-there which [] i x at = absurd (cc at)
settled-there which (y ∷ ys) zero x at = ap (λ (o : Option Cached). Rattle.std.specs.Prelude.option_map (settled_if which) o) at
settled-there which (y ∷ ys) (suc i) x at = settled-there which ys i x at

pub settled-manifest : (which : DataId) (x : Cached) → (settled_if which x).manifest ≡ x.manifest
settled-manifest which x = pick (same_id x.manifest.desc.which which) where
  pick : (b : Bool) → (let y : Cached = if b then come_to mark.Settled x else x in y.manifest) ≡ x.manifest
  pick true = refl
  pick false = refl

pub ascend-settled : (which : DataId) (low : ℕ) (xs : List Cached) → AscendFrom low xs → AscendFrom low (map (settled_if which) xs)
ascend-settled which low [] rise = tt
ascend-settled which low (x ∷ xs) rise =
    let same = ap (λ (y : Manifest). y.desc.which.id) (settled-manifest which x) in
    (omega (arith, same, rise.0), subst (λ (k : ℕ). AscendFrom (k + 1) (map (settled_if which) xs)) (sym same) (ascend-settled which (x.manifest.desc.which.id + 1) xs rise.1))

pub below-settled : (which : DataId) (n : ℕ) (xs : List Cached) → AreBelow n xs → AreBelow n (map (settled_if which) xs)
below-settled which n [] below = tt
below-settled which n (x ∷ xs) below = (omega (arith, ap (λ (y : Manifest). y.desc.which.id) (settled-manifest which x), below.0), below-settled which n xs below.1)

pub none-if : (test : Cached → Bool) (xs : List Cached) → ((i : ℕ) (x : Cached) → slice_get xs i ≡ Some x → test x ≡ false) → list_any test xs ≡ false
none-if test [] each = refl
none-if test (x ∷ xs) each = ap (λ (b : Bool). b || list_any test xs) (each 0 x refl) ∙ none-if test xs (λ i y at. each (suc i) y at)

true_or_false : (b : Bool) → (b ≡ true) ⊎ (b ≡ false)
true_or_false true = inl refl
true_or_false false = inr refl

pub home_of : (c : RunState) (p : ℕ) → IsWell c → p < c.shape.nodes → slice_get c.places p ≡ Some p
home_of c p w lt = subst (λ (ps : List ℕ). slice_get ps p ≡ Some p) (sym w.places)
    (slice_get-get_or (numbers_below c.shape.nodes) p 0 (omega (arith, lt, length-range_with_len 0 c.shape.nodes)) ∙ ap Some (get_or-range_with_len 0 c.shape.nodes p 0 lt ∙ (let e : 0 + p ≡ p = omega arith in e)))

known_settled : (c : RunState) (which : DataId) (y : Manifest) → IsKnown (settled_core c which) y → IsKnown c y
known_settled c which y (inl e) = inl e
known_settled c which y (inr among) =
    let x = settled-at which c.kept among.0 among.1 among.2 in
    inr (among.0, x.0, x.1, sym (settled-manifest which x.0) ∙ ap (λ (z : Cached). z.manifest) x.2 ∙ among.3)

settled_known : (c : RunState) (which : DataId) (y : Manifest) → IsKnown c y → IsKnown (settled_core c which) y
settled_known c which y (inl e) = inl e
settled_known c which y (inr among) = inr (among.0, settled_if which among.1, settled-there which c.kept among.0 among.1 among.2, settled-manifest which among.1 ∙ among.3)

module _ (first : Machine) (c : RunState) (programs : List (List Step)) (states after : ℕ → DeviceState) (events events' : List Event) (n : ℕ) (m : Manifest) (place : ℕ) (home : slice_get c.places n ≡ Some place)
    (h : IsSaving first c programs states events work.SealedSync n m) (closed : c.opened ≡ None) (last : n + 1 ≡ c.shape.nodes) (done : OnlyAt place Synced states after) where
  sealed_one : (x : Cached) × (i : ℕ) × (slice_get c.kept i ≡ Some x) × (x.manifest ≡ m) × (x.mark ≡ mark.Sealing)
  sealed_one = pick h.saved where
    pick : IsSaved work.SealedSync n c m → (x : Cached) × (i : ℕ) × (slice_get c.kept i ≡ Some x) × (x.manifest ≡ m) × (x.mark ≡ mark.Sealing)
    pick (inl e) = absurd (cc (closed, e))
    pick (inr s) = s.1

  is_sealed : list_any (λ (y : Cached). same_id y.manifest.desc.which m.desc.which && seals y) c.kept ≡ true
  is_sealed =
      let s = sealed_one in
      one-passes (λ (y : Cached). same_id y.manifest.desc.which m.desc.which && seals y) c.kept s.1 s.0 s.2
      (both _ _ (ap (λ (y : Manifest). same_id y.desc.which m.desc.which) s.3 ∙ id-same m.desc.which) (ap is_being_sealed s.4)) where
        both : (a b : Bool) → a ≡ true → b ≡ true → a && b ≡ true
        both true b p q = q
        both false b p q = absurd (cc p)

  up_to_last : (node p : ℕ) → slice_get c.places node ≡ Some p → nat_le node n ≡ true
  up_to_last node p at = grind (arith, nat_tests, last, (place_of_node c node p h.well at).1)

  stands : RecordsStand (cells_of states) c.places m
  stands node p at = subst (λ (b : Bool). RecordIs (cells_of states p (record_name m.desc.which node)) m node true b) (up_to_last node p at) (h.saves.records node p at)

  records_then : (i : ℕ) (y : Cached) → slice_get (map (settled_if m.desc.which) c.kept) i ≡ Some y → RecordsStand (cells_of states) c.places y.manifest
  records_then i y at =
      let x = settled-at m.desc.which c.kept i y at in
      subst (λ (z : Manifest). RecordsStand (cells_of states) c.places z) (sym (settled-manifest m.desc.which x.0) ∙ ap (λ (z : Cached). z.manifest) x.2) (pick x.0 x.1 (true_or_false (is_being_sealed x.0.mark))) where
        pick : (x : Cached) → slice_get c.kept i ≡ Some x → (is_being_sealed x.mark ≡ true) ⊎ (is_being_sealed x.mark ≡ false) → RecordsStand (cells_of states) c.places x.manifest
        pick x is (inl sealed) = subst (λ (z : Manifest). RecordsStand (cells_of states) c.places z) (sym (h.saves.one i x is sealed)) stands
        pick x is (inr not) = h.files.records i x is not

  none_seals : list_any seals (map (settled_if m.desc.which) c.kept) ≡ false
  none_seals = none-if seals (map (settled_if m.desc.which) c.kept) (λ i y at. let x = settled-at m.desc.which c.kept i y at in ap seals (sym x.2) ∙ pick i x.0 x.1 (true_or_false (same_id x.0.manifest.desc.which m.desc.which)) (true_or_false (is_being_sealed x.0.mark))) where
    pick : (i : ℕ) (x : Cached) → slice_get c.kept i ≡ Some x → (same_id x.manifest.desc.which m.desc.which ≡ true) ⊎ (same_id x.manifest.desc.which m.desc.which ≡ false) → (is_being_sealed x.mark ≡ true) ⊎ (is_being_sealed x.mark ≡ false) → seals (settled_if m.desc.which x) ≡ false
    pick i x is (inl same) s = ap (λ (b : Bool). seals (if b then come_to mark.Settled x else x)) same
    pick i x is (inr other) (inl sealed) = absurd (cc (other, ap (λ (z : Manifest). same_id z.desc.which m.desc.which) (h.saves.one i x is sealed) ∙ id-same m.desc.which))
    pick i x is (inr other) (inr not) = ap (λ (b : Bool). seals (if b then come_to mark.Settled x else x)) other ∙ not

  none_mends : list_any mends (map (settled_if m.desc.which) c.kept) ≡ false
  none_mends = none-if mends (map (settled_if m.desc.which) c.kept) (λ i y at. let x = settled-at m.desc.which c.kept i y at in ap mends (sym x.2) ∙ pick i x.0 x.1 (true_or_false (same_id x.0.manifest.desc.which m.desc.which))) where
    pick : (i : ℕ) (x : Cached) → slice_get c.kept i ≡ Some x → (same_id x.manifest.desc.which m.desc.which ≡ true) ⊎ (same_id x.manifest.desc.which m.desc.which ≡ false) → mends (settled_if m.desc.which x) ≡ false
    pick i x is (inl same) = ap (λ (b : Bool). mends (if b then come_to mark.Settled x else x)) same
    pick i x is (inr other) = ap (λ (b : Bool). mends (if b then come_to mark.Settled x else x)) other ∙ none-passes mends c.kept i x h.mended is

  all_quiet : (p : ℕ) (q : List ℕ) → p ≤ 32 → IsAtRest ((after p).file q)
  all_quiet p q low = pick (below_or_not p c.shape.nodes) where
    below_or_not : (a b : ℕ) → (a < b) ⊎ (b ≤ a)
    below_or_not a b = grind arith

    on_node : (p < c.shape.nodes) → (p ≡ n) ⊎ (p ≢ n) → IsAtRest ((after p).file q)
    on_node lt (inl same) = subst (λ (x : ℕ). IsAtRest ((after x).file q)) (sym (same ∙ sym (place_of_node c n place h.well home).0)) (done.here.at_rest q)
    on_node lt (inr other) = synced_rest place states after done p q (h.saves.quiet p p q (home_of c p h.well lt) (differs p n other)) where
      differs : (a b : ℕ) → a ≢ b → (a == b) ≡ false
      differs a b o = grind (arith, nat_tests, o)

    pick : (p < c.shape.nodes) ⊎ (c.shape.nodes ≤ p) → IsAtRest ((after p).file q)
    pick (inl lt) = on_node lt (cases_eq p n)
    pick (inr le) = synced_rest place states after done p q (h.quiet p q low (λ node. absurd (omega (arith, node, le))))

  pub settle_told : events' ≡ events ++ event.Settled m.desc.which ∷ [] → Leads first (settled_core c m.desc.which) programs after events'
  settle_told more =
      let d = settled_core c m.desc.which in
      let bytes = contents_of (cells_of states) c in
      let same = alike_cells place states after done in
      leads_up first d programs after events' refl (record {
        run = subst (λ (cells : Cells). Rattle.ckpt_model.specs.Runs.RunsTo (setup_of c) first events' (running (contents_of cells c) d)) (sym same)
            (run_on (setup_of c) first (running bytes c) (running bytes d) events events' (event.Settled m.desc.which) more h.run (settles c bytes h.saves.round.valid m.desc.which h.saves.round.complete h.saves.round.first is_sealed));
        so_far = tells_more c.places programs events events' (event.Settled m.desc.which) more h.so_far tt refl;
        well = record {
          single = h.well.single;
          places = h.well.places;
          rise = ascend-settled m.desc.which 1 c.kept h.well.rise;
          below = below-settled m.desc.which c.next c.kept h.well.below;
          sets = λ y known. h.well.sets y (known_settled c m.desc.which y known);
          opened_run = h.well.opened_run;
          opened_below = h.well.opened_below;
          opened_last = λ y e. absurd (cc (closed, e));
          output = λ y e. absurd (cc (closed, e));
          ranks = h.well.ranks;
        };
        files = subst (λ (cells : Cells). FilesHold d cells) (sym same) (record {
          stored = h.files.stored;
          halted = h.files.halted;
          unindexed = h.files.unindexed;
          files = λ y known. h.files.files y (known_settled c m.desc.which y known);
          records = λ i y at sealed. records_then i y at;
          others = λ p which node low at foreign. h.files.others p which node low at (λ y known. foreign y (settled_known c m.desc.which y known));
          future = h.files.future;
          fresh = h.files.fresh;
        });
        quiet = λ p q low calm. all_quiet p q low;
        unrecorded = λ y e. absurd (cc (closed, e));
        working = (none_mends, none_seals);
      })
