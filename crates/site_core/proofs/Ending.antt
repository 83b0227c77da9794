-- A run ends, and its devices stop.
use Rattle.std.proofs.Common.{◌≡◌, ◌⊎◌, inl, inr, ℕ, zero, suc, ◌+◌, ◌*◌, ◌/◌, ◌%◌, ◌<◌, ◌≤◌, Bool, true, false, List, [], ◌∷◌, ◌++◌, length, map, Option, Some, None, refl, sym, ap, ◌∙◌, subst, slice_get, arith, codes}
use Rattle.std.specs.Prelude.{IsTrue, slice_index, not, ◌&&◌, if◌then◌else◌}
use Rattle.std.proofs.Math.Path.{fun_ext}
use Rattle.std.proofs.lemmas.List.{get_or_past}
use Rattle.std.proofs.lemmas.List.FromFn.{length-range_with_len}
use Rattle.site_state.specs.Shown.{all_files}
use Rattle.site_core.proofs.Halts.{halt_same, unindexed_same}
use Rattle.site_state.proofs.Hands.{same_all}
use Rattle.std.specs.List.{list_any, list_all}
use Rattle.std.proofs.lemmas.Bool.{cases_eq}
use Rattle.std.proofs.lemmas.Option.{slice_get_within}
use Rattle.scr_base.specs.declared.shape.DataId.{DataId}
use Rattle.scr_base.specs.declared.content.Step.{Step}
use Rattle.node_device.specs.File.{IsAtRest, bytes_of}
use Rattle.node_device.specs.DeviceState.{DeviceState}
use Rattle.node_device.specs.Calls.{Crashes}
use Rattle.node_device.specs.Outcomes.{rest_leaves}
use Rattle.filemap.specs.Maps.{rows_of}
use Rattle.member_store.specs.Names.{record_name, part_name, IsPlace}
use Rattle.member_store.specs.declared.part.Part.TheVariants.{File}
use Rattle.ckpt_model.specs.declared.event.Event.{Event}
use Rattle.ckpt_model.specs.declared.event.Event.TheVariants as event
use Rattle.ckpt_model.specs.declared.event.StopCause.TheVariants as cause
use Rattle.ckpt_model.specs.Machine.{Machine, Setup, Kept}
use Rattle.ckpt_model.specs.Stops.{after_stop}
use Rattle.model_proper.specs.Fair.{IsFair}
use Rattle.site_state.specs.Waiting.{is_over}
use Rattle.round_core.specs.declared.seat.Seat.{Seat}
use Rattle.round_core.specs.Seats.{is_complete}
use Rattle.site_state.specs.declared.cache.Cached.{Cached}
use Rattle.site_state.specs.declared.cache.Manifest.{Manifest}
use Rattle.site_state.specs.declared.cache.Mark.{Mark}
use Rattle.site_state.specs.declared.cache.Mark.TheVariants as mark
use Rattle.site_state.specs.declared.run_state.RunState.{RunState}
use Rattle.site_state.specs.declared.run_state.RunStage.{RunStage}
use Rattle.site_state.specs.declared.run_state.RunStage.TheVariants as stage
use Rattle.site_state.specs.Shown.{Contents, running, stopped, setup_of, kept_of, mends}
use Rattle.site_state.specs.Choosing.{AscendFrom, seals, is_at_rest}
use Rattle.site_core.specs.Stored.{cells_of, contents_in, contents_of, is_named, place_of_rank, file_name, FilesStand, FileStands, RecordsStand, RecordIs, IsAmong, IsKnown, IsWell, IsOfSite, FilesHold, NoFutureFiles, NoOtherRecords, IsFuture}
use Rattle.site_core.specs.Holds.{Leads, CanBegin, IsOneOf, settled_set, IsUp, IsPending, IsFileOf, NoRecordYet, WorkIs}
use Rattle.site_core.proofs.Told.{is_up, led, at_up, tells_end}
use Rattle.site_core.proofs.Frames.{IsNamed, named, is_place, data-same, files-same, file_no_record, AreFilesSame}
use Rattle.site_core.proofs.Names.{parts-same}
use Rattle.site_core.proofs.Puts.{row_named, row_rank, few_rows, kept_other, rank_place_low, place_is}
use Rattle.site_state.proofs.Shapes.{few_nodes}
use Rattle.site_state.proofs.Rounds.{may_end}
use Rattle.site_core.proofs.LeftStages.{remains, stage_left}
use Rattle.site_core.proofs.Closing.{IsLawful, over_core, closes, plain_choice, decides_nothing}

some_same : {X : Type 0} (x y : X) → Some x ≡ Some y → x ≡ y
some_same x y e = cc

-- ## The run's last event

rest-mark : (m : Mark) → Rattle.site_state.specs.Shown.is_to_mend m ≡ false → Rattle.site_state.specs.Choosing.is_being_sealed m ≡ false → is_at_rest m ≡ true
rest-mark mark.Mending a b = absurd (cc a)
rest-mark mark.Sealing a b = absurd (cc b)
rest-mark mark.Settled a b = refl

or-parts : (a b : Bool) → Rattle.std.specs.Prelude.◌||◌ a b ≡ false → (a ≡ false) × (b ≡ false)
or-parts true b e = absurd (cc e)
or-parts false b e = (refl, e)

all-settled : (xs : List Cached) → list_any mends xs ≡ false → list_any seals xs ≡ false → list_all (λ (x : Cached). is_at_rest x.mark) xs ≡ true
all-settled [] a b = refl
all-settled (x ∷ xs) a b =
    let p = or-parts (mends x) (list_any mends xs) a in
    let q = or-parts (seals x) (list_any seals xs) b in
    ap (λ (t : Bool). t && list_all (λ (y : Cached). is_at_rest y.mark) xs) (rest-mark x.mark p.0 q.0) ∙ all-settled xs p.1 q.1

-- ## The stop

-- a run whose last call was End: nothing but the files of an open dataset may be pending, and each dataset in cache is settled
record IsAtEnd (c : RunState) (states : ℕ → DeviceState) (m : Machine) : Type 0 where
  pub is : m ≡ stopped (contents_of (cells_of states) c) c
  pub well : IsWell c
  pub files : FilesHold c (cells_of states)
  pub quiet : (p : ℕ) (q : List ℕ) → p ≤ 32 → (p < c.shape.nodes → IsPending stage.Serving c q → ⊥) → IsAtRest ((states p).file q)
  pub unrecorded : NoRecordYet stage.Serving c (cells_of states)
  pub settled : list_all (λ (x : Cached). is_at_rest x.mark) c.kept ≡ true

manifests : List Cached → List Manifest
manifests sets = map (λ (x : Cached). x.manifest) sets

settled-again : (xs : List Cached) → list_all (λ (x : Cached). is_at_rest x.mark) xs ≡ true → map settled_set (map (λ (x : Cached). x.manifest) xs) ≡ xs
settled-again [] all = refl
settled-again (x ∷ xs) all =
    let p = Rattle.site_core.proofs.Told.and_true (is_at_rest x.mark) (list_all (λ (y : Cached). is_at_rest y.mark) xs) all in
    ap (λ (y : Cached). y ∷ map settled_set (map (λ (z : Cached). z.manifest) xs)) (one x x.mark refl p.0) ∙ ap (λ (ys : List Cached). x ∷ ys) (settled-again xs p.1) where
      one : (y : Cached) (m : Mark) → m ≡ y.mark → is_at_rest y.mark ≡ true → settled_set y.manifest ≡ y
      one y mark.Settled e t = ap (λ (m : Mark). let z : Cached = record { manifest = y.manifest; mark = m } in z) e
      one y mark.Mending e t = absurd (cc (ap is_at_rest e, t))
      one y mark.Sealing e t = absurd (cc (ap is_at_rest e, t))

one-among : (xs : List Cached) (i : ℕ) (m : Manifest) → slice_get (map (λ (x : Cached). x.manifest) xs) i ≡ Some m → (x : Cached) × (slice_get xs i ≡ Some x) × (x.manifest ≡ m)
one-among [] i m at = absurd (cc at)
one-among (x ∷ xs) zero m at = (x, refl, some_same x.manifest m at)
one-among (x ∷ xs) (suc i) m at = one-among xs i m at

among-one : (xs : List Cached) (i : ℕ) (x : Cached) → slice_get xs i ≡ Some x → slice_get (map (λ (y : Cached). y.manifest) xs) i ≡ Some x.manifest
among-one [] i x at = absurd (cc at)
among-one (y ∷ ys) zero x at = ap Some (ap (λ (z : Cached). z.manifest) (some_same y x at))
among-one (y ∷ ys) (suc i) x at = among-one ys i x at

at-rest-at : (xs : List Cached) (i : ℕ) (x : Cached) → list_all (λ (y : Cached). is_at_rest y.mark) xs ≡ true → slice_get xs i ≡ Some x → Rattle.site_state.specs.Choosing.is_being_sealed x.mark ≡ false
at-rest-at [] i x all at = absurd (cc at)
at-rest-at (y ∷ ys) zero x all at = unsealed x.mark (ap (λ (z : Cached). is_at_rest z.mark) (sym (some_same y x at)) ∙ (Rattle.site_core.proofs.Told.and_true (is_at_rest y.mark) (list_all (λ (z : Cached). is_at_rest z.mark) ys) all).0) where
  unsealed : (m : Mark) → is_at_rest m ≡ true → Rattle.site_state.specs.Choosing.is_being_sealed m ≡ false
  unsealed mark.Mending e = absurd (cc e)
  unsealed mark.Sealing e = absurd (cc e)
  unsealed mark.Settled e = refl
at-rest-at (y ∷ ys) (suc i) x all at = at-rest-at ys i x (Rattle.site_core.proofs.Told.and_true (is_at_rest y.mark) (list_all (λ (z : Cached). is_at_rest z.mark) ys) all).1 at

module _ (c : RunState) (states after : ℕ → DeviceState) (m : Machine) (h : IsAtEnd c states m) (crash : (p : ℕ) → p ≤ 32 → Crashes (states p) (after p)) (tells : (p : ℕ) → p ≤ 32 → (after p).tells ≡ true) where
  -- what was at rest is as it was
  stays : (p : ℕ) (q : List ℕ) → p ≤ 32 → (p < c.shape.nodes → IsPending stage.Serving c q → ⊥) → cells_of after p q ≡ cells_of states p q
  stays p q low calm = rest_leaves ((states p).file q) ((after p).file q).now (h.quiet p q low calm) ((crash p low).outcome (tells p low) q)

  not_pending : (which : DataId) (q : List ℕ) → ((m : Manifest) → c.opened ≡ Some m → IsFileOf c m q → ⊥) → IsPending stage.Serving c q → ⊥
  not_pending which q other pending = other pending.0 pending.1 pending.2

  -- no record's name is one of a file's
  record_calm : (which : DataId) (node : ℕ) → IsPlace which node → IsPending stage.Serving c (record_name which node) → ⊥
  record_calm which node at pending =
      let file = pending.2 in
      let of = is_place pending.0.desc 0 (omega arith) in
      file_no_record pending.0.desc.which which c.shape.ranks file.0 file.1 node (record { id = of.id; run = of.run; rank_is = file.2; file = file.3 }) at (sym file.4)

  record_stays : (p : ℕ) (which : DataId) (node : ℕ) → p ≤ 32 → IsPlace which node → cells_of after p (record_name which node) ≡ cells_of states p (record_name which node)
  record_stays p which node low at = stays p (record_name which node) low (λ on. record_calm which node at)

  -- the files of other datasets than the open one
  file_calm : (which : DataId) (rank j : ℕ) → IsNamed which rank j → ((x : Manifest) → c.opened ≡ Some x → x.desc.which ≡ which → ⊥) → IsPending stage.Serving c (file_name which c.shape.ranks rank j) → ⊥
  file_calm which rank j n other pending =
      let file = pending.2 in
      let of = is_place pending.0.desc 0 (omega arith) in
      let same = files-same which pending.0.desc.which c.shape.ranks rank file.0 j file.1 n (record { id = of.id; run = of.run; rank_is = file.2; file = file.3 }) file.4 in
      other pending.0 pending.1 (sym same.which_is)

  place_low : (rank : ℕ) → rank < c.shape.nodes * c.shape.ranks → place_of_rank c.places c.shape.ranks rank ≤ 32
  place_low rank lt = omega (arith, rank_place_low c rank h.well lt)

  -- a dataset in cache has its files
  kept_stands : (x : Manifest) → IsAmong c.kept x → FilesStand (cells_of after) c.places c.shape.ranks x
  kept_stands x among rank j row at =
      let of = h.well.sets x (inr among) in
      let lt = row_rank x.files rank j row at in
      let n = row_named c.shape c.run x rank j of lt (omega (arith, few_rows c.shape c.run x rank of lt, slice_get_within (rows_of x.files rank) j row at)) in
      let low = place_low rank (omega (arith, lt, of.files.ranks_are)) in
      subst (λ (o : Option (List ℕ)). FileStands o row) (sym (stays (place_of_rank c.places c.shape.ranks rank) (file_name x.desc.which c.shape.ranks rank j) low (λ on. file_calm x.desc.which rank j n (λ y e same. kept_other c y x h.well e among (sym same)))))
      (h.files.files x (inr among) rank j row at)

  node_low : (node p : ℕ) → slice_get c.places node ≡ Some p → p ≤ 32
  node_low node p home = let at = Rattle.site_core.proofs.Saving.place_of_node c node p h.well home in omega (arith, at.0, at.1, few_nodes c.shape)

  kept_records : (i : ℕ) (x : Cached) → slice_get c.kept i ≡ Some x → RecordsStand (cells_of after) c.places x.manifest
  kept_records i x at node p home =
      subst (λ (o : Option (List ℕ)). RecordIs o x.manifest node true true) (sym (record_stays p x.manifest.desc.which node (node_low node p home) (is_place x.manifest.desc node (Rattle.site_core.proofs.RecordFiles.node_small c node p h.well home))))
      (h.files.records i x at (at-rest-at c.kept i x h.settled at) node p home)

  -- the open dataset is this one, or not
  opened_is : (which : DataId) → ((x : Manifest) × (c.opened ≡ Some x) × (x.desc.which ≡ which)) ⊎ ((x : Manifest) → c.opened ≡ Some x → x.desc.which ≡ which → ⊥)
  opened_is which = pick c.opened refl where
    pick : (o : Option Manifest) → o ≡ c.opened → ((x : Manifest) × (c.opened ≡ Some x) × (x.desc.which ≡ which)) ⊎ ((x : Manifest) → c.opened ≡ Some x → x.desc.which ≡ which → ⊥)
    pick None e = inr (λ x is same. absurd (cc (e, is)))
    pick (Some y) e = elim (cases_eq y.desc.which.id which.id) [
      | inr other ↦ inr (λ x is same. other (ap (λ (z : Manifest). z.desc.which.id) (some_same y x (e ∙ is)) ∙ ap (λ (d : DataId). d.id) same))
      | inl i ↦ elim (cases_eq y.desc.which.run which.run) [
        | inr other ↦ inr (λ x is same. other (ap (λ (z : Manifest). z.desc.which.run) (some_same y x (e ∙ is)) ∙ ap (λ (d : DataId). d.run) same))
        | inl r ↦ inl (y, sym e, data-same y.desc.which which i r)
      ]
    ]

  no_others : NoOtherRecords (IsOneOf (map (λ (x : Cached). x.manifest) c.kept)) (cells_of after) c.places
  no_others p which node low at foreign = record_stays p which node (omega (arith, low)) at ∙ pick (opened_is which) where
    among : (x : Manifest) → IsAmong c.kept x → x.desc.which ≡ which → slice_get c.places node ≡ Some p → ⊥
    among x is same home = foreign x (is.0, among-one c.kept is.0 is.1 is.2 ∙ ap Some is.3) same home

    pick : ((x : Manifest) × (c.opened ≡ Some x) × (x.desc.which ≡ which)) ⊎ ((x : Manifest) → c.opened ≡ Some x → x.desc.which ≡ which → ⊥) → cells_of states p (record_name which node) ≡ None
    pick (inl is) = ap (λ (w : DataId). cells_of states p (record_name w node)) (sym is.2) ∙ h.unrecorded is.0 is.1 p node low (subst (λ (w : DataId). IsPlace w node) (sym is.2) at)
    pick (inr other) = h.files.others p which node low at (λ x known same home. foreign_known x known same home) where
      foreign_known : (x : Manifest) → IsKnown c x → x.desc.which ≡ which → slice_get c.places node ≡ Some p → ⊥
      foreign_known x (inl e) same home = other x e same
      foreign_known x (inr is) same home = among x is same home

  no_future : NoFutureFiles (cells_of after) (c.run + 1) 0
  no_future p which node local j low at sl sj future =
      stays p (part_name which node (File local j)) (omega (arith, low)) (λ on pending. calm pending) ∙ h.files.future p which node local j low at sl sj (inl later) where
        later : c.run < which.run
        later = pick future where
          pick : IsFuture (c.run + 1) 0 which → c.run < which.run
          pick (inl l) = omega (arith, l)
          pick (inr s) = omega (arith, s.0)

        calm : IsPending stage.Serving c (part_name which node (File local j)) → ⊥
        calm pending =
            let file = pending.2 in
            let of = is_place pending.0.desc 0 (omega arith) in
            let same = parts-same which pending.0.desc.which node (file.0 / c.shape.ranks) local (file.0 % c.shape.ranks) j file.1 at
            (is_place pending.0.desc (file.0 / c.shape.ranks) (Rattle.site_core.proofs.Frames.div_small file.0 c.shape.ranks file.2)) sl (Rattle.site_core.proofs.Frames.mod_small file.0 c.shape.ranks file.2) sj file.3 file.4 in
            absurd (omega (arith, later, same.run, h.well.opened_run pending.0 pending.1))

  any_place_low : (rank : ℕ) → place_of_rank c.places c.shape.ranks rank ≤ 32
  any_place_low rank = pick (below_or_not (rank / c.shape.ranks) c.shape.nodes) where
    below_or_not : (a b : ℕ) → (a < b) ⊎ (b ≤ a)
    below_or_not a b = grind arith

    pick : (rank / c.shape.ranks < c.shape.nodes) ⊎ (c.shape.nodes ≤ rank / c.shape.ranks) → place_of_rank c.places c.shape.ranks rank ≤ 32
    pick (inl lt) = omega (arith, place_is c.shape c.places (rank / c.shape.ranks) h.well.places lt, lt, few_nodes c.shape)
    pick (inr le) = omega (arith, get_or_past c.places (rank / c.shape.ranks) 0 (omega (arith, le, ap length h.well.places, length-range_with_len 0 c.shape.nodes)))

  -- the bytes of a dataset that isn't the open one
  same_bytes : (which : DataId) → ((x : Manifest) → c.opened ≡ Some x → x.desc.which ≡ which → ⊥) → (rank j : ℕ) → contents_in (cells_of after) c.places c.shape.ranks which rank j ≡ contents_in (cells_of states) c.places c.shape.ranks which rank j
  same_bytes which other rank j = pick (is_named which rank j) refl where
    pick : (b : Bool) → is_named which rank j ≡ b → (if b then bytes_of (cells_of after (place_of_rank c.places c.shape.ranks rank) (file_name which c.shape.ranks rank j)) else []) ≡ (if b then bytes_of (cells_of states (place_of_rank c.places c.shape.ranks rank) (file_name which c.shape.ranks rank j)) else [])
    pick true e = ap bytes_of (stays (place_of_rank c.places c.shape.ranks rank) (file_name which c.shape.ranks rank j) (any_place_low rank) (λ on. file_calm which rank j (named which rank j e) other))
    pick false e = refl

  same_kept : (x : Cached) → IsAmong c.kept x.manifest → kept_of (setup_of c) (contents_of (cells_of states) c) c.places x ≡ kept_of (setup_of c) (contents_of (cells_of after) c) c.places x
  same_kept x among = kept_files (same_all (contents_of (cells_of states) c x.manifest.desc.which) (contents_of (cells_of after) c x.manifest.desc.which) 0 x.manifest.files
      (λ r le j. sym (same_bytes x.manifest.desc.which (λ y e same. kept_other c y x.manifest h.well e among (sym same)) r j))) where
        kept_files : all_files (contents_of (cells_of states) c x.manifest.desc.which) 0 x.manifest.files ≡ all_files (contents_of (cells_of after) c x.manifest.desc.which) 0 x.manifest.files
            → kept_of (setup_of c) (contents_of (cells_of states) c) c.places x ≡ kept_of (setup_of c) (contents_of (cells_of after) c) c.places x
        kept_files e = ap (λ (fs : List (List Rattle.ckpt_model.specs.Dataset.File)). let k : Kept = kept_of (setup_of c) (contents_of (cells_of states) c) c.places x in let d : Rattle.ckpt_model.specs.Dataset.Dataset = k.dataset in record k { dataset = record d { files = fs } }) e

  prefix_same : cells_of after 32 ≡ cells_of states 32
  prefix_same = fun_ext (λ q. stays 32 q (omega arith) (λ on. absurd (omega (arith, on, few_nodes c.shape))))

  -- the devices stand for the run's last state
  crashed : CanBegin (setup_of c) after m
  crashed =
      let sets = map (λ (x : Cached). x.manifest) c.kept in
      record {
        single = h.well.single;
        sets = sets;
        quiet = λ p q low. (crash p low).at_rest q;
        store = record {
          stored = ap (λ (f : List ℕ → Option (List ℕ)). Rattle.site_calls.specs.Numbers.run_number (Rattle.gated_record.specs.Pair.pair_value (codes "run") f)) prefix_same ∙ h.files.stored ∙ sym (ap (λ (x : Machine). x.run) h.is);
          rise = subst (λ (xs : List Cached). AscendFrom 1 xs) (sym (settled-again c.kept h.settled)) h.well.rise;
          sets_are = λ x one. subst (λ (r : ℕ). IsOfSite c.shape r x) (sym (ap (λ (y : Machine). y.run) h.is)) (h.well.sets x (inr (in_cache x one)));
          files = λ x one. subst (λ (ps : List ℕ). FilesStand (cells_of after) ps c.shape.ranks x) h.well.places (kept_stands x (in_cache x one));
          records = λ x one. subst (λ (ps : List ℕ). RecordsStand (cells_of after) ps x) h.well.places (let y = one-among c.kept one.0 x one.1 in subst (λ (z : Manifest). RecordsStand (cells_of after) c.places z) y.2 (kept_records one.0 y.0 y.1));
          others = subst (λ (ps : List ℕ). NoOtherRecords (IsOneOf sets) (cells_of after) ps) h.well.places no_others;
          future = subst (λ (r : ℕ). NoFutureFiles (cells_of after) (r + 1) 0) (sym (ap (λ (y : Machine). y.run) h.is)) no_future;
        };
        between = ap (λ (y : Machine). y.stage) h.is;
        kept = ap (λ (y : Machine). y.kept) h.is
            ∙ same-in (kept_of (setup_of c) (contents_of (cells_of states) c) c.places) (kept_of (setup_of c) (contents_of (cells_of after) c) c.places) c.kept (λ i x at. same_kept x (i, x, at, refl))
            ∙ ap (λ (xs : List Cached). map (kept_of (setup_of c) (contents_of (cells_of after) c) c.places) xs) (sym (settled-again c.kept h.settled))
            ∙ ap (λ (ps : List ℕ). map (kept_of (setup_of c) (contents_in (cells_of after) ps c.shape.ranks) ps) (map settled_set sets)) h.well.places;
        index = ap (λ (y : Machine). y.index) h.is;
        halt = ap (λ (y : Machine). y.halt) h.is ∙ sym (halt_same (cells_of states) (cells_of after) prefix_same ∙ h.files.halted);
        mark_is = ap (λ (y : Machine). y.mark) h.is;
        unindexed = unindexed_same (cells_of states) (cells_of after) prefix_same h.files.unindexed;
      } where
        in_cache : (x : Manifest) → IsOneOf (map (λ (y : Cached). y.manifest) c.kept) x → IsAmong c.kept x
        in_cache x one = let y = one-among c.kept one.0 x one.1 in (one.0, y.0, y.1, y.2)

        same-in : (f g : Cached → Kept) (xs : List Cached) → ((i : ℕ) (x : Cached) → slice_get xs i ≡ Some x → f x ≡ g x) → map f xs ≡ map g xs
        same-in f g [] same = refl
        same-in f g (x ∷ xs) same = ap (λ (k : Kept). k ∷ map f xs) (same 0 x refl) ∙ ap (λ (ks : List Kept). g x ∷ ks) (same-in f g xs (λ i y at. same (suc i) y at))

-- ## The run's last event

-- the stop of a run whose ranks all ended decides nothing
stop_is : (s : Setup) (bytes : Contents) (c : RunState) (entries : List Bool) (took : Bool) → after_stop s (running bytes c) (plain_choice entries took) ≡ stopped bytes c
stop_is s bytes c entries took = refl

pub ended : (first : Machine) (c : RunState) (programs : List (List Step)) (states : ℕ → DeviceState) (events events' : List Event) → IsLawful states → IsFair (setup_of c) first → c.stage ≡ stage.Serving → Leads first c programs states events
    → is_complete c.ranks ≡ true → list_all (λ (seat : Seat). seat.ended) c.ranks ≡ true → events' ≡ events ++ event.Stop cause.Ended ∷ [] → Leads first (over_core c) programs states events'
ended first c programs states events events' law fair at leads complete all more =
    let h = led first c programs states events (ap is_up at) leads in
    let working : WorkIs stage.Serving c states = subst (λ (s : RunStage). WorkIs s c states) at h.working in
    let none : NoRecordYet stage.Serving c (cells_of states) = subst (λ (s : RunStage). NoRecordYet s c (cells_of states)) at h.unrecorded in
    let quiet = subst (λ (s : RunStage). (p : ℕ) (q : List ℕ) → p ≤ 32 → (p < c.shape.nodes → IsPending s c q → ⊥) → IsAtRest ((states p).file q)) at h.quiet in
    let bytes = contents_of (cells_of states) c in
    let end : IsAtEnd c states (stopped bytes c) = record { is = refl; well = h.well; files = h.files; quiet = quiet; unrecorded = none; settled = all-settled c.kept working.0 working.1 } in
    let up : IsUp c states (running bytes c) = record { is = refl; well = h.well; files = h.files; quiet = h.quiet; unrecorded = h.unrecorded; working = h.working } in
    closes first c programs states events events' cause.Ended (running bytes c) law fair h.run (may_end c bytes complete all) more (tells_end c.places programs events (event.Stop cause.Ended) h.so_far tt) h.so_far.goes_on
    (λ good choice may_be after stop. subst (λ (m : Machine). CanBegin (setup_of c) after m)
    (sym (ap (after_stop (setup_of c) (running bytes c)) (decides_nothing (setup_of c) (running bytes c) cause.Ended choice refl (λ e. absurd (cc e)) may_be) ∙ stop_is (setup_of c) bytes c choice.entries choice.took))
    (crashed c states after (stopped bytes c) end stop.crashes stop.tells))
    (remains c states (running bytes c) cause.Ended (stage_left c.stage c states (running bytes c) refl (ap is_over at) (at_up c.stage c states (running bytes c) (ap is_up at) up)))
