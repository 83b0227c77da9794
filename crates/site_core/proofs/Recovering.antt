-- A run begins, finds what the run before left, and ends.
use Rattle.std.proofs.Common.{◌≡◌, inl, inr, ℕ, zero, suc, ◌+◌, ◌*◌, ◌<◌, ◌≤◌, Bool, true, false, List, [], ◌∷◌, ◌++◌, length, map, replicate, Some, None, refl, sym, ap, ◌∙◌, subst, slice_get, arith}
use Rattle.std.specs.Prelude.{IsTrue, slice_index, bytes_eq, find, nat_lt, not, ◌&&◌, ◌==◌}
use Rattle.std.specs.List.{list_any, list_all}
use Rattle.std.proofs.lemmas.List.{length-replicate}
use Rattle.std.proofs.lemmas.List.FromFn.{length-range_with_len}
use Rattle.scr_base.specs.declared.shape.DataId.{DataId}
use Rattle.scr_base.specs.declared.content.Step.{Step}
use Rattle.node_device.specs.File.{IsAtRest}
use Rattle.node_device.specs.DeviceState.{DeviceState}
use Rattle.ckpt_model.specs.declared.event.Event.{Event}
use Rattle.ckpt_model.specs.declared.event.Event.TheVariants as event
use Rattle.ckpt_model.specs.Machine.{Machine, Setup, Kept, Stage as Place}
use Rattle.ckpt_model.specs.Steps.{are_places, are_distinct, physical_count, may_begin, after_begin}
use Rattle.ckpt_model.specs.Runs.{StepsTo}
use Rattle.ckpt_model.proofs.RunLemmas.{run_on}
use Rattle.round_core.specs.Seats.{fresh_seat}
use Rattle.site_state.specs.declared.cache.Cached.{Cached}
use Rattle.site_state.specs.declared.cache.Manifest.{Manifest}
use Rattle.site_state.specs.declared.cache.Mark.TheVariants as mark
use Rattle.site_state.specs.declared.run_state.RunState.{RunState}
use Rattle.site_state.specs.declared.run_state.RunStage.{RunStage}
use Rattle.site_state.specs.declared.run_state.RunStage.TheVariants as stage
use Rattle.site_state.specs.Shown.{Contents, running, begun, setup_of, kept_of, come_to, settled_if, mends, row_of, greatest_id, rank_of}
use Rattle.site_state.specs.Choosing.{AscendFrom, AreBelow, seals}
use Rattle.site_core.specs.Stored.{cells_of, contents_of, FilesStand, RecordsStand, IsKnown, NoOtherRecords, IsFuture}
use Rattle.site_core.specs.Holds.{Leads, StoreHolds, IsOneOf, settled_set, IsFresh, IsLooking, IsQuiet, IsUp, IsPending, IsSoFar, WorkIs, NoRecordYet}
use Rattle.site_core.proofs.Told.{is_up, led, leads_up, tells_more}
use Rattle.site_state.proofs.Finds.{finds}
use Rattle.site_state.proofs.Seals.{mended}
use Rattle.site_core.proofs.SaveEnds.{settled-at, settled-there, settled-manifest, ascend-settled, below-settled, none-if, none-passes}
use Rattle.site_state.proofs.Ranks.{map-map}

some_same : {X : Type 0} (x y : X) → Some x ≡ Some y → x ≡ y
some_same x y e = cc

-- ## What is found

-- a dataset as recovery finds it
abbrev pub found_set : Manifest → Cached
found_set m = record { manifest = m; mark = mark.Mending }

-- the run has found these
abbrev pub found_core : RunState → List Manifest → RunState
found_core c sets = record c { stage = stage.Mending; kept = map found_set sets; next = greatest_id (map settled_set sets) + 1 }

found-at : (sets : List Manifest) (i : ℕ) (x : Cached) → slice_get (map found_set sets) i ≡ Some x → (m : Manifest) × (slice_get sets i ≡ Some m) × (found_set m ≡ x)
found-at [] i x at = absurd (cc at)
found-at (m ∷ ms) zero x at = (m, refl, some_same (found_set m) x at)
found-at (m ∷ ms) (suc i) x at = found-at ms i x at

found-there : (sets : List Manifest) (i : ℕ) (m : Manifest) → slice_get sets i ≡ Some m → slice_get (map found_set sets) i ≡ Some (found_set m)
found-there [] i m at = absurd (cc at)
found-there (x ∷ xs) zero m at = ap Some (ap found_set (some_same x m at))
found-there (x ∷ xs) (suc i) m at = found-there xs i m at

ascend-found : (low : ℕ) (sets : List Manifest) → AscendFrom low (map settled_set sets) → AscendFrom low (map found_set sets)
ascend-found low [] rise = tt
ascend-found low (m ∷ ms) rise = (rise.0, ascend-found (m.desc.which.id + 1) ms rise.1)

fold-least : (sets : List Cached) (n : ℕ) → n ≤ Rattle.std.specs.Prelude.fold (λ k (set : Cached). Rattle.std.specs.Prelude.max k set.manifest.desc.which.id) n sets
fold-least [] n = omega arith
fold-least (x ∷ xs) n = omega (arith, fold-least xs (Rattle.std.specs.Prelude.max n x.manifest.desc.which.id))

below-greatest : (sets : List Manifest) (n g : ℕ) → Rattle.std.specs.Prelude.fold (λ k (set : Cached). Rattle.std.specs.Prelude.max k set.manifest.desc.which.id) n (map settled_set sets) ≤ g → AreBelow (g + 1) (map found_set sets)
below-greatest [] n g le = tt
below-greatest (m ∷ ms) n g le =
    (omega (arith, le, fold-least (map settled_set ms) (Rattle.std.specs.Prelude.max n m.desc.which.id)), below-greatest ms (Rattle.std.specs.Prelude.max n m.desc.which.id) g le)

none-sealed : (sets : List Manifest) → list_any seals (map found_set sets) ≡ false
none-sealed [] = refl
none-sealed (m ∷ ms) = none-sealed ms

known_found : (c : RunState) (sets : List Manifest) (m : Manifest) → c.opened ≡ None → IsKnown (found_core c sets) m → IsOneOf sets m
known_found c sets m closed (inl e) = absurd (cc (closed, e))
known_found c sets m closed (inr among) =
    let x = found-at sets among.0 among.1 among.2 in
    (among.0, x.1 ∙ ap (λ (y : Cached). Some y.manifest) x.2 ∙ ap Some among.3)

found_known : (c : RunState) (sets : List Manifest) (m : Manifest) → IsOneOf sets m → IsKnown (found_core c sets) m
found_known c sets m one = inr (one.0, found_set m, found-there sets one.0 m one.1, refl)

-- the ranks of a run that has begun
fresh-ranks : (n : ℕ) → map rank_of (replicate n fresh_seat) ≡ replicate n Rattle.ckpt_model.specs.Steps.fresh_rank
fresh-ranks zero = refl
fresh-ranks (suc n) = ap (λ (rs : List Rattle.ckpt_model.specs.Machine.RankState). Rattle.ckpt_model.specs.Steps.fresh_rank ∷ rs) (fresh-ranks n)

pub looking : (s : RunStage) (c : RunState) (states : ℕ → DeviceState) (m : Machine) → s ≡ stage.Looking → Rattle.site_core.specs.Holds.HoldsAt s c states m → IsLooking c states m
looking s c states m e h = subst (λ (x : RunStage). Rattle.site_core.specs.Holds.HoldsAt x c states m) e h

told_looking : (s : RunStage) (places : List ℕ) (programs : List (List Step)) (events : List Event) → s ≡ stage.Looking → Rattle.site_core.specs.Holds.ToldAt s places programs events → IsSoFar places programs events
told_looking s places programs events e h = subst (λ (x : RunStage). Rattle.site_core.specs.Holds.ToldAt x places programs events) e h

first_place : (ns : List ℕ) → 0 < length ns → (p : ℕ) × ((rest : List ℕ) × (ns ≡ p ∷ rest))
first_place [] lt = absurd (omega arith)
first_place (n ∷ ns) lt = (n, (ns, refl))

settled-twice : (sets : List Manifest) → map (come_to mark.Settled) (map settled_set sets) ≡ map settled_set sets
settled-twice sets = map-map (come_to mark.Settled) settled_set settled_set (λ m. refl) sets

mending-found : (sets : List Manifest) → map (come_to mark.Mending) (map settled_set sets) ≡ map found_set sets
mending-found sets = map-map (come_to mark.Mending) settled_set found_set (λ m. refl) sets

-- what recovery leaves in memory shows the state
shown : (c : RunState) (bytes : Contents) (next : ℕ) (sets : List Manifest) → IsFresh c
    → (let m : Machine = begun c next (map (kept_of (setup_of c) bytes c.places) (map found_set sets)) in record m { stage = Place.Running; next = greatest_id (map settled_set sets) + 1 }) ≡ running bytes (found_core c sets)
shown c bytes next sets fresh = rw (fresh.phase_is, fresh.offer, fresh.opened, fresh.ranks, fresh.settled, fresh.needs, fresh.reading, fresh-ranks (c.shape.nodes * c.shape.ranks)) refl

pub found : (first : Machine) (c : RunState) (programs : List (List Step)) (states : ℕ → DeviceState) (events events' : List Event) (sets : List Manifest) (h : Leads first c programs states events) (at : c.stage ≡ stage.Looking)
    → (looking c.stage c states h.state at h.holds).sets ≡ sets → 0 < c.shape.nodes
    → events' ≡ events ++ event.Found (map row_of (map settled_set sets)) [] ∷ [] → Leads first (found_core c sets) programs states events'
found first c programs states events events' sets h at are some more =
    let look = looking c.stage c states h.state at h.holds in
    let fresh = look.fresh in
    let bytes = contents_of (cells_of states) c in
    let d = found_core c sets in
    let store : StoreHolds (setup_of c) (cells_of states) c.run sets = subst (λ (x : List Manifest). StoreHolds (setup_of c) (cells_of states) c.run x) are look.store in
    let front = first_place c.places (omega (arith, some, ap length fresh.places, length-range_with_len 0 c.shape.nodes)) in
    let was : h.state ≡ begun c look.next (map (kept_of (setup_of c) bytes c.places) (map settled_set sets)) = look.is ∙ ap (λ (x : List Manifest). begun c look.next (map (kept_of (setup_of c) bytes c.places) (map settled_set x))) are in
    let step : StepsTo (setup_of c) h.state (event.Found (map row_of (map settled_set sets)) []) (running bytes d) =
    subst (λ (m : Machine). StepsTo (setup_of c) m (event.Found (map row_of (map settled_set sets)) []) (running bytes d)) (sym was)
    (subst (λ (m : Machine). StepsTo (setup_of c) (begun c look.next (map (kept_of (setup_of c) bytes c.places) (map settled_set sets))) (event.Found (map row_of (map settled_set sets)) []) m)
    (ap (λ (ks : List Cached). let m : Machine = begun c look.next (map (kept_of (setup_of c) bytes c.places) ks) in record m { stage = Place.Running; next = greatest_id (map settled_set sets) + 1 }) (mending-found sets) ∙ shown c bytes look.next sets fresh)
    (subst (λ (ks : List Cached). StepsTo (setup_of c) (begun c look.next (map (kept_of (setup_of c) bytes c.places) ks)) (event.Found (map row_of (map settled_set sets)) [])
    (let m : Machine = begun c look.next (map (kept_of (setup_of c) bytes c.places) (map (come_to mark.Mending) (map settled_set sets))) in record m { stage = Place.Running; next = greatest_id (map settled_set sets) + 1 })) (settled-twice sets)
    (finds c bytes front.0 front.1.0 look.next (map settled_set sets) front.1.1))) in
    leads_up first d programs states events' refl (record {
      run = run_on (setup_of c) first h.state (running bytes d) events events' (event.Found (map row_of (map settled_set sets)) []) more h.run step;
      so_far = tells_more c.places programs events events' (event.Found (map row_of (map settled_set sets)) []) more (told_looking c.stage c.places programs events at h.told) tt refl;
      well = record {
        single = fresh.single;
        places = fresh.places;
        rise = ascend-found 1 sets store.rise;
        below = below-greatest sets 0 (greatest_id (map settled_set sets)) (omega arith);
        sets = λ m known. store.sets_are m (known_found c sets m fresh.opened known);
        opened_run = λ m e. absurd (cc (fresh.opened, e));
        opened_below = λ m e. absurd (cc (fresh.opened, e));
        opened_last = λ m e. absurd (cc (fresh.opened, e));
        output = λ m e. absurd (cc (fresh.opened, e));
        ranks = ap length fresh.ranks ∙ length-replicate (c.shape.nodes * c.shape.ranks) fresh_seat;
      };
      files = record {
        stored = store.stored;
        halted = look.halted;
        unindexed = look.unindexed;
        files = λ m known. subst (λ (ps : List ℕ). FilesStand (cells_of states) ps c.shape.ranks m) (sym fresh.places) (store.files m (known_found c sets m fresh.opened known));
        records = λ i x is sealed. records_at fresh store i x is;
        others = subst (λ (ps : List ℕ). NoOtherRecords (IsKnown d) (cells_of states) ps) (sym fresh.places)
            (λ p which node low place foreign. store.others p which node low place (λ m one same home. foreign m (found_known c sets m one) same home));
        future = λ p which node local j low place sl sj later. look.future p which node local j low place sl sj (from_zero which later);
        fresh = λ m e. absurd (cc (fresh.opened, e));
      };
      quiet = λ p q low calm. look.quiet p q low;
      unrecorded = λ m e. absurd (cc (fresh.opened, e));
      working = (fresh.opened, none-sealed sets);
    }) where
      from_zero : (which : DataId) → IsFuture c.run (greatest_id (map settled_set sets) + 1) which → IsFuture c.run 0 which
      from_zero which (inl later) = inl later
      from_zero which (inr same) = inr (same.0, omega arith)

      records_at : IsFresh c → StoreHolds (setup_of c) (cells_of states) c.run sets → (i : ℕ) (x : Cached) → slice_get (map found_set sets) i ≡ Some x → RecordsStand (cells_of states) c.places x.manifest
      records_at fresh store i x is =
          let m = found-at sets i x is in
          subst (λ (y : Manifest). RecordsStand (cells_of states) c.places y) (ap (λ (z : Cached). z.manifest) m.2)
          (subst (λ (ps : List ℕ). RecordsStand (cells_of states) ps m.0) (sym fresh.places) (store.records m.0 (i, m.1)))

-- ## What was found is looked after

-- a dataset that was found is settled
pub mends_one : (first : Machine) (c : RunState) (programs : List (List Step)) (states : ℕ → DeviceState) (events events' : List Event) (x : Cached) → c.stage ≡ stage.Mending → find mends c.kept ≡ Some x → Leads first c programs states events
    → events' ≡ events ++ event.Mended x.manifest.desc.which ∷ [] → Leads first (record c { kept = map (settled_if x.manifest.desc.which) c.kept }) programs states events'
mends_one first c programs states events events' x at next leads more =
    let h = led first c programs states events (ap is_up at) leads in
    let working : WorkIs stage.Mending c states = subst (λ (s : RunStage). WorkIs s c states) at h.working in
    let which = x.manifest.desc.which in
    let d : RunState = record c { kept = map (settled_if which) c.kept } in
    let bytes = contents_of (cells_of states) c in
    let quiet = subst (λ (s : RunStage). (p : ℕ) (q : List ℕ) → p ≤ 32 → (p < c.shape.nodes → IsPending s c q → ⊥) → IsAtRest ((states p).file q)) at h.quiet in
    let closed = working.0 in
    let none_sealed : list_any seals (map (settled_if which) c.kept) ≡ false = none-if seals (map (settled_if which) c.kept) (λ i y is. let z = settled-at which c.kept i y is in ap seals (sym z.2) ∙ kept_unsealed which z.0 (none-passes seals c.kept i z.0 working.1 z.1)) in
    leads_up first d programs states events' (ap is_up at) (record {
      run = run_on (setup_of c) first (running bytes c) (running bytes d) events events' (event.Mended which) more h.run (mended c bytes x next (lower c.kept h.well.rise));
      so_far = tells_more c.places programs events events' (event.Mended which) more h.so_far tt refl;
      well = record {
        single = h.well.single;
        places = h.well.places;
        rise = ascend-settled which 1 c.kept h.well.rise;
        below = below-settled which c.next c.kept h.well.below;
        sets = λ y known. h.well.sets y (known_before which closed y known);
        opened_run = h.well.opened_run;
        opened_below = h.well.opened_below;
        opened_last = λ y e. absurd (cc (closed, e));
        output = λ y e. absurd (cc (closed, e));
        ranks = h.well.ranks;
      };
      files = record {
        stored = h.files.stored;
        halted = h.files.halted;
        unindexed = h.files.unindexed;
        files = λ y known. h.files.files y (known_before which closed y known);
        records = λ i y is sealed. let z = settled-at which c.kept i y is in
            subst (λ (m : Manifest). RecordsStand (cells_of states) c.places m) (sym (settled-manifest which z.0) ∙ ap (λ (w : Cached). w.manifest) z.2) (h.files.records i z.0 z.1 (none-passes seals c.kept i z.0 working.1 z.1));
        others = λ p w node low place foreign. h.files.others p w node low place (λ m known same home. foreign m (known_after which m known) same home);
        future = h.files.future;
        fresh = h.files.fresh;
      };
      quiet = subst (λ (s : RunStage). (p : ℕ) (q : List ℕ) → p ≤ 32 → (p < c.shape.nodes → IsPending s d q → ⊥) → IsAtRest ((states p).file q)) (sym at) quiet;
      unrecorded = subst (λ (s : RunStage). NoRecordYet s d (cells_of states)) (sym at) (λ m e. absurd (cc (closed, e)));
      working = subst (λ (s : RunStage). WorkIs s d states) (sym at) (closed, none_sealed);
    }) where
      lower : (xs : List Cached) → AscendFrom 1 xs → AscendFrom 0 xs
      lower [] rise = tt
      lower (y ∷ ys) rise = (omega arith, rise.1)

      kept_unsealed : (which : DataId) (y : Cached) → seals y ≡ false → seals (settled_if which y) ≡ false
      kept_unsealed which y not = pick (Rattle.scr_base.specs.Same.same_id y.manifest.desc.which which) where
        pick : (b : Bool) → seals (Rattle.std.specs.Prelude.if◌then◌else◌ b (come_to mark.Settled y) y) ≡ false
        pick true = refl
        pick false = not

      known_before : (which : DataId) → c.opened ≡ None → (y : Manifest) → IsKnown (record c { kept = map (settled_if which) c.kept }) y → IsKnown c y
      known_before which closed y (inl e) = inl e
      known_before which closed y (inr among) =
          let z = settled-at which c.kept among.0 among.1 among.2 in
          inr (among.0, z.0, z.1, sym (settled-manifest which z.0) ∙ ap (λ (w : Cached). w.manifest) z.2 ∙ among.3)

      known_after : (which : DataId) (y : Manifest) → IsKnown c y → IsKnown (record c { kept = map (settled_if which) c.kept }) y
      known_after which y (inl e) = inl e
      known_after which y (inr among) = inr (among.0, settled_if which among.1, settled-there which c.kept among.0 among.1 among.2, settled-manifest which among.1 ∙ among.3)

-- the last is looked after: the run serves
pub serves_now : (first : Machine) (c : RunState) (programs : List (List Step)) (states : ℕ → DeviceState) (events : List Event) → c.stage ≡ stage.Mending → list_any mends c.kept ≡ false → Leads first c programs states events → Leads first (record c { stage = stage.Serving }) programs states events
serves_now first c programs states events at none leads =
    let h = led first c programs states events (ap is_up at) leads in
    let working : WorkIs stage.Mending c states = subst (λ (s : RunStage). WorkIs s c states) at h.working in
    let quiet = subst (λ (s : RunStage). (p : ℕ) (q : List ℕ) → p ≤ 32 → (p < c.shape.nodes → IsPending s c q → ⊥) → IsAtRest ((states p).file q)) at h.quiet in
    let d : RunState = record c { stage = stage.Serving } in
    leads_up first d programs states events refl (record {
      run = h.run;
      so_far = h.so_far;
      well = record { single = h.well.single; places = h.well.places; rise = h.well.rise; below = h.well.below; sets = h.well.sets; opened_run = h.well.opened_run; opened_below = h.well.opened_below; opened_last = h.well.opened_last; output = h.well.output; ranks = h.well.ranks };
      files = record { stored = h.files.stored; halted = h.files.halted; unindexed = h.files.unindexed; files = h.files.files; records = h.files.records; others = h.files.others; future = h.files.future; fresh = h.files.fresh };
      quiet = quiet;
      unrecorded = λ m e. absurd (cc (working.0, e));
      working = (none, working.1);
    })
