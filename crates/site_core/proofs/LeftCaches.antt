-- What a stop leaves of the datasets in cache.
use Rattle.std.proofs.Common.{◌≡◌, ◌≢◌, ◌⊎◌, inl, inr, ℕ, ◌+◌, ◌/◌, ◌<◌, ◌≤◌, Bool, true, false, List, [], length, map, Option, Some, None, refl, sym, ap, ◌∙◌, subst, slice_get, arith}
use Rattle.std.specs.Prelude.{slice_index, if◌then◌else◌}
use Rattle.std.proofs.Math.Path.{fun_ext}
use Rattle.std.proofs.lemmas.List.{get_or_past}
use Rattle.std.proofs.lemmas.Option.{slice_get_within, get_or_from_slice_get}
use Rattle.std.proofs.lemmas.List.FromFn.{length-range_with_len, get_or-range_with_len}
use Rattle.scr_base.specs.Sets.{numbers_below}
use Rattle.scr_base.specs.Same.{same_id}
use Rattle.scr_base.specs.declared.shape.DataId.{DataId}
use Rattle.scr_base.specs.declared.shape.Shape.{Shape}
use Rattle.node_device.specs.File.{File, IsAtRest, IsPartlySynced, MayLeave, bytes_of, byte_at}
use Rattle.node_device.specs.DeviceState.{DeviceState}
use Rattle.node_device.specs.Outcomes.{rest_leaves, true_or_false}
use Rattle.gated_record.specs.Record.{IsOpen}
use Rattle.gate_outcomes.specs.Leaves.{Leaves}
use Rattle.gate_outcomes.proofs.Stays.{synced_open, synced_whole, rest_whole}
use Rattle.filemap.specs.Maps.{rows_of}
use Rattle.filemap.specs.declared.rows.FileRow.{FileRow}
use Rattle.member_store.specs.Names.{record_name, IsPlace, IsNameOf}
use Rattle.member_store.specs.Members.{member_body}
use Rattle.ckpt_model.specs.Machine.{Machine, Setup}
use Rattle.ckpt_model.proofs.Plays.{same_id_is}
use Rattle.site_state.specs.declared.cache.Cached.{Cached}
use Rattle.site_state.specs.declared.cache.Manifest.{Manifest}
use Rattle.site_state.specs.declared.cache.Mark.{Mark}
use Rattle.site_state.specs.declared.cache.Mark.TheVariants as mark
use Rattle.site_state.specs.Choosing.{is_being_sealed}
use Rattle.site_state.specs.Shown.{Contents, kept_of, is_doubtful}
use Rattle.site_core.specs.Stored.{cells_of, contents_in, is_named, place_of_rank, file_name, FilesStand, FileStands, RecordsStand, NoOtherRecords, IsAmong, IsOfSite}
use Rattle.site_core.specs.Holds.{IsOfDataset}
use Rattle.site_core.specs.Left.{LeavesWhole, IsNoneOf, LeavesCache, LeavesKept, NoLater}
use Rattle.site_core.proofs.Frames.{is_place, place_named}
use Rattle.site_state.proofs.Shapes.{few_nodes}
use Rattle.site_core.proofs.Puts.{few_rows, row_rank, row_named, place_is}
use Rattle.site_core.proofs.Losses.{not_of_other, file_of}
use Rattle.site_core.proofs.LeftFiles.{gate_opens, home_or_not}

-- ## Places

-- each node is at the place of its number
pub home_is : (shape : Shape) (places : List ℕ) (node p : ℕ) → places ≡ numbers_below shape.nodes → slice_get places node ≡ Some p → (p ≡ node) × (node < shape.nodes)
home_is shape places node p are home =
    let at : slice_get (numbers_below shape.nodes) node ≡ Some p = subst (λ (ps : List ℕ). slice_get ps node ≡ Some p) are home in
    let lt : node < shape.nodes = omega (arith, slice_get_within (numbers_below shape.nodes) node p at, length-range_with_len 0 shape.nodes) in
    (sym (get_or_from_slice_get (numbers_below shape.nodes) node p 0 at) ∙ get_or-range_with_len 0 shape.nodes node 0 lt ∙ (let e : 0 + node ≡ node = omega arith in e), lt)

-- no place is the prefix
pub low_place : (shape : Shape) (places : List ℕ) (k : ℕ) → places ≡ numbers_below shape.nodes → slice_index places k < 32
low_place shape places k are = pick (below_or_not k shape.nodes) where
  below_or_not : (a b : ℕ) → (a < b) ⊎ (b ≤ a)
  below_or_not a b = grind arith

  pick : (k < shape.nodes) ⊎ (shape.nodes ≤ k) → slice_index places k < 32
  pick (inl lt) = omega (arith, place_is shape places k are lt, lt, few_nodes shape)
  pick (inr le) = omega (arith, get_or_past places k 0 (omega (arith, le, ap length are, length-range_with_len 0 shape.nodes)))

-- ## Which dataset has an identity

some_same : {X : Type 0} (x y : X) → Some x ≡ Some y → x ≡ y
some_same x y e = cc

same_or_not : (a b : DataId) → (a ≡ b) ⊎ (a ≢ b)
same_or_not a b = pick (true_or_false (same_id a b)) where
  pick : (same_id a b ≡ true) ⊎ (same_id a b ≡ false) → (a ≡ b) ⊎ (a ≢ b)
  pick (inl e) = inl (same_id_is a b e)
  pick (inr e) = inr (λ same. absurd (cc (ap (λ (x : DataId). same_id x b) same, Rattle.ckpt_model.proofs.SameLemmas.id-same b, e)))

-- the one manifest, where there is one with this identity
pub in_option : (o : Option Manifest) (which : DataId) → ((m : Manifest) × (o ≡ Some m) × (m.desc.which ≡ which)) ⊎ ((m : Manifest) → o ≡ Some m → m.desc.which ≡ which → ⊥)
in_option None which = inr (λ m e same. absurd (cc e))
in_option (Some m) which = pick (same_or_not m.desc.which which) where
  pick : (m.desc.which ≡ which) ⊎ (m.desc.which ≢ which) → ((x : Manifest) × (Some m ≡ Some x) × (x.desc.which ≡ which)) ⊎ ((x : Manifest) → Some m ≡ Some x → x.desc.which ≡ which → ⊥)
  pick (inl same) = inl (m, refl, same)
  pick (inr other) = inr (λ x e same. other (ap (λ (z : Manifest). z.desc.which) (some_same m x e) ∙ same))

-- ## The cache

-- What is known of the files while one dataset at most is in hand: of all others nothing is pending.
pub record CacheFacts (shape : Shape) (run : ℕ) (places : List ℕ) (states : ℕ → DeviceState) (sets : List Cached) (opened hand : Option Manifest) : Type 0 where
  pub places_are : places ≡ numbers_below shape.nodes
  pub of_site : (i : ℕ) (x : Cached) → slice_get sets i ≡ Some x → IsOfSite shape run x.manifest
  pub files : (i : ℕ) (x : Cached) → slice_get sets i ≡ Some x → FilesStand (cells_of states) places shape.ranks x.manifest
  pub records : (i : ℕ) (x : Cached) → slice_get sets i ≡ Some x → is_being_sealed x.mark ≡ false → RecordsStand (cells_of states) places x.manifest
  pub others : NoOtherRecords (λ (m : Manifest). (opened ≡ Some m) ⊎ IsAmong sets m) (cells_of states) places
  pub quiet : (p : ℕ) (q : List ℕ) → p < 32 → ((m : Manifest) → hand ≡ Some m → IsOfDataset m.desc.which q → ⊥) → IsAtRest ((states p).file q)
  pub apart : (i : ℕ) (x : Cached) → slice_get sets i ≡ Some x → is_being_sealed x.mark ≡ false → (m : Manifest) → hand ≡ Some m → x.manifest.desc.which ≢ m.desc.which
  pub sealing : (i : ℕ) (x : Cached) → slice_get sets i ≡ Some x → is_being_sealed x.mark ≡ true → LeavesWhole places shape.ranks states x.manifest
  pub opening : (m : Manifest) → opened ≡ Some m → (node p : ℕ) → slice_get places node ≡ Some p → Leaves ((states p).file (record_name m.desc.which node)) (λ o. IsOpen o 1 → ⊥)
  pub known : (m : Manifest) → hand ≡ Some m → (opened ≡ Some m → ⊥) → (IsAmong sets m → ⊥) → ⊥
  pub away : (m : Manifest) → hand ≡ Some m → (p node : ℕ) → p < 32 → IsPlace m.desc.which node → (slice_get places node ≡ Some p → ⊥) → Leaves ((states p).file (record_name m.desc.which node)) (λ o. IsOpen o 1 → ⊥)
  pub sealing_away : (i : ℕ) (x : Cached) → slice_get sets i ≡ Some x → is_being_sealed x.mark ≡ true → (p node : ℕ) → p < 32 → IsPlace x.manifest.desc.which node → (slice_get places node ≡ Some p → ⊥) → IsAtRest ((states p).file (record_name x.manifest.desc.which node))
  pub hand_run : (m : Manifest) → hand ≡ Some m → m.desc.which.run ≤ run
  pub open_run : (m : Manifest) → opened ≡ Some m → m.desc.which.run ≤ run

not_doubtful : (m : Mark) → is_doubtful m ≡ false → is_being_sealed m ≡ false
not_doubtful mark.Mending e = refl
not_doubtful mark.Sealing e = e
not_doubtful mark.Settled e = refl

module _ (shape : Shape) (run : ℕ) (places : List ℕ) (states : ℕ → DeviceState) (sets : List Cached) (opened hand : Option Manifest) (f : CacheFacts shape run places states sets opened hand) where
  -- a name of a dataset that isn't in hand
  calm_name : (which : DataId) (node : ℕ) (q : List ℕ) → IsPlace which node → IsNameOf which node q → ((m : Manifest) → hand ≡ Some m → which ≢ m.desc.which) → (m : Manifest) → hand ≡ Some m → IsOfDataset m.desc.which q → ⊥
  calm_name which node q at of other m is theirs = not_of_other m.desc.which which theirs.0 node q (is_place m.desc theirs.0 theirs.1) at (other m is) of theirs.2

  record_rest : (i : ℕ) (x : Cached) → slice_get sets i ≡ Some x → is_being_sealed x.mark ≡ false → (node p : ℕ) → slice_get places node ≡ Some p → IsAtRest ((states p).file (record_name x.manifest.desc.which node))
  record_rest i x at calm node p home =
      let is = home_is shape places node p f.places_are home in
      f.quiet p (record_name x.manifest.desc.which node) (omega (arith, is.0, is.1, few_nodes shape))
      (calm_name x.manifest.desc.which node (record_name x.manifest.desc.which node) (is_place x.manifest.desc node (omega (arith, is.1, few_nodes shape))) (inl refl) (f.apart i x at calm))

  file_rest : (i : ℕ) (x : Cached) → slice_get sets i ≡ Some x → is_being_sealed x.mark ≡ false → (rank j : ℕ) (row : FileRow) → slice_get (rows_of x.manifest.files rank) j ≡ Some row
      → IsAtRest ((states (place_of_rank places shape.ranks rank)).file (file_name x.manifest.desc.which shape.ranks rank j))
  file_rest i x at calm rank j row there =
      let of = f.of_site i x at in
      let lt = row_rank x.manifest.files rank j row there in
      let named = row_named shape run x.manifest rank j of lt (omega (arith, few_rows shape run x.manifest rank of lt, slice_get_within (rows_of x.manifest.files rank) j row there)) in
      f.quiet (place_of_rank places shape.ranks rank) (file_name x.manifest.desc.which shape.ranks rank j) (low_place shape places (rank / shape.ranks) f.places_are)
      (calm_name x.manifest.desc.which (rank / shape.ranks) (file_name x.manifest.desc.which shape.ranks rank j) (place_named x.manifest.desc.which rank j shape.ranks named) (file_of x.manifest.desc.which shape.ranks rank j named.rank_is named.file) (f.apart i x at calm))

  -- a dataset at rest is left whole
  resting_whole : (i : ℕ) (x : Cached) → slice_get sets i ≡ Some x → is_being_sealed x.mark ≡ false → LeavesWhole places shape.ranks states x.manifest
  resting_whole i x at calm = record {
    records = λ node p home.
        let is = f.records i x at calm node p home in
        rest_whole ((states p).file (record_name x.manifest.desc.which node)) (member_body x.manifest.desc node x.manifest.files) (record_rest i x at calm node p home) (gate_opens (((states p).file (record_name x.manifest.desc.which node)).now) 0 is.whole_is) is.body;
    files = λ rank j row there o may.
        let same = rest_leaves ((states (place_of_rank places shape.ranks rank)).file (file_name x.manifest.desc.which shape.ranks rank j)) o (file_rest i x at calm rank j row there) may in
        (subst (λ (b : Option (List ℕ)). FileStands b row) (sym same) (f.files i x at rank j row there), same);
  }

  each_whole : (i : ℕ) (x : Cached) → slice_get sets i ≡ Some x → LeavesWhole places shape.ranks states x.manifest
  each_whole i x at = pick (true_or_false (is_being_sealed x.mark)) where
    pick : (is_being_sealed x.mark ≡ true) ⊎ (is_being_sealed x.mark ≡ false) → LeavesWhole places shape.ranks states x.manifest
    pick (inl sealed) = f.sealing i x at sealed
    pick (inr calm) = resting_whole i x at calm

  -- of what isn't known there is no record
  not_left : (f : File) → IsAtRest f → f.now ≡ None → (o : Option (List ℕ)) → MayLeave f o → IsOpen o 1 → ⊥
  not_left f rest none o may opens = absurd (omega (arith, opens, ap (λ (x : Option (List ℕ)). byte_at x 1) (rest_leaves f o rest may ∙ none)))

  -- a record of a dataset that isn't in cache
  others_left : (p : ℕ) (which : DataId) (node : ℕ) → p < 32 → IsPlace which node → IsNoneOf sets which → Leaves ((states p).file (record_name which node)) (λ o. IsOpen o 1 → ⊥)
  others_left p which node low at none = pick (home_or_not places node p) (in_option opened which) (in_option hand which) where
    resting : ((m : Manifest) → hand ≡ Some m → m.desc.which ≡ which → ⊥) → ((m : Manifest) → (opened ≡ Some m) ⊎ IsAmong sets m → m.desc.which ≡ which → slice_get places node ≡ Some p → ⊥) → Leaves ((states p).file (record_name which node)) (λ o. IsOpen o 1 → ⊥)
    resting free foreign = not_left ((states p).file (record_name which node)) (f.quiet p (record_name which node) low (calm_name which node (record_name which node) at (inl refl) (λ m is same. free m is (sym same)))) (f.others p which node low at foreign)

    not_among : (m : Manifest) → IsAmong sets m → m.desc.which ≡ which → ⊥
    not_among m among same = none among.0 among.1 among.2 (ap (λ (z : Manifest). z.desc.which) among.3 ∙ same)

    pick : (slice_get places node ≡ Some p) ⊎ (slice_get places node ≡ Some p → ⊥) → ((m : Manifest) × (opened ≡ Some m) × (m.desc.which ≡ which)) ⊎ ((m : Manifest) → opened ≡ Some m → m.desc.which ≡ which → ⊥)
        → ((m : Manifest) × (hand ≡ Some m) × (m.desc.which ≡ which)) ⊎ ((m : Manifest) → hand ≡ Some m → m.desc.which ≡ which → ⊥) → Leaves ((states p).file (record_name which node)) (λ o. IsOpen o 1 → ⊥)
    pick (inl home) (inl h) _ = λ o may. f.opening h.0 h.1 node p home o (subst (λ (w : DataId). MayLeave ((states p).file (record_name w node)) o) (sym h.2) may)
    pick (inl home) (inr closed) (inl h) = λ o may. absurd (f.known h.0 h.1 (λ e. closed h.0 e h.2) (λ among. not_among h.0 among h.2))
    pick (inl home) (inr closed) (inr free) = resting free foreign where
      foreign : (m : Manifest) → (opened ≡ Some m) ⊎ IsAmong sets m → m.desc.which ≡ which → slice_get places node ≡ Some p → ⊥
      foreign m (inl is) same h = closed m is same
      foreign m (inr among) same h = not_among m among same
    pick (inr off) _ (inl h) = λ o may. f.away h.0 h.1 p node low (subst (λ (w : DataId). IsPlace w node) (sym h.2) at) off o (subst (λ (w : DataId). MayLeave ((states p).file (record_name w node)) o) (sym h.2) may)
    pick (inr off) _ (inr free) = resting free (λ m known same home. off home)

  -- a record of a dataset in cache, but not at home
  away_left : (i : ℕ) (x : Cached) → slice_get sets i ≡ Some x → (p node : ℕ) → p < 32 → IsPlace x.manifest.desc.which node → (slice_get places node ≡ Some p → ⊥) → Leaves ((states p).file (record_name x.manifest.desc.which node)) (λ o. o ≡ None)
  away_left i x at p node low place off o may = rest_leaves ((states p).file (record_name x.manifest.desc.which node)) o (pick (true_or_false (is_being_sealed x.mark))) may ∙ f.others p x.manifest.desc.which node low place (λ m known same home. off home) where
    pick : (is_being_sealed x.mark ≡ true) ⊎ (is_being_sealed x.mark ≡ false) → IsAtRest ((states p).file (record_name x.manifest.desc.which node))
    pick (inl sealed) = f.sealing_away i x at sealed p node low place off
    pick (inr calm) = f.quiet p (record_name x.manifest.desc.which node) low (calm_name x.manifest.desc.which node (record_name x.manifest.desc.which node) place (inl refl) (f.apart i x at calm))

  -- of a later run there is nothing
  pub none_later : NoLater states run
  none_later p which node low at later o may = rest_leaves ((states p).file (record_name which node)) o
      (f.quiet p (record_name which node) low (calm_name which node (record_name which node) at (inl refl) (λ m is same. absurd (omega (arith, later, f.hand_run m is, ap (λ (w : DataId). w.run) same))))) may
      ∙ f.others p which node low at (λ m known same home. absurd (omega (arith, later, known_run m known, ap (λ (w : DataId). w.run) same))) where
        known_run : (m : Manifest) → (opened ≡ Some m) ⊎ IsAmong sets m → m.desc.which.run ≤ run
        known_run m (inl is) = f.open_run m is
        known_run m (inr among) = subst (λ (y : Manifest). y.desc.which.run ≤ run) among.3 (f.of_site among.0 among.1 among.2).run_is

  pub cache_left : LeavesCache places shape.ranks states sets
  cache_left = record {
    whole = each_whole;
    sealed = λ i x at sure node p home o may.
        let calm = not_doubtful x.mark sure in
        let is = f.records i x at calm node p home in
        ap (λ (b : Option (List ℕ)). byte_at b 1) (rest_leaves ((states p).file (record_name x.manifest.desc.which node)) o (record_rest i x at calm node p home) may) ∙ gate_opens (((states p).file (record_name x.manifest.desc.which node)).now) 1 is.sealed_is;
    away = away_left;
    others = others_left;
  }

-- ## After a call that leaves no more

module _ (s : Setup) (places : List ℕ) (states after : ℕ → DeviceState) (m : Machine) (low : (k : ℕ) → slice_index places k < 32)
    (partly : (p : ℕ) (q : List ℕ) → p < 32 → IsPartlySynced ((states p).file q) ((after p).file q)) (same : (p : ℕ) (q : List ℕ) → p < 32 → cells_of after p q ≡ cells_of states p q) where
  home_low : (node p : ℕ) → slice_get places node ≡ Some p → p < 32
  home_low node p home = omega (arith, low node, get_or_from_slice_get places node p 0 home)

  whole_on : (x : Manifest) → LeavesWhole places s.shape.ranks states x → LeavesWhole places s.shape.ranks after x
  whole_on x whole = record {
    records = λ node p home. synced_whole ((states p).file (record_name x.desc.which node)) ((after p).file (record_name x.desc.which node)) (member_body x.desc node x.files) (partly p (record_name x.desc.which node) (home_low node p home)) (whole.records node p home);
    files = λ rank j row there o may.
        let p = place_of_rank places s.shape.ranks rank in
        let q = file_name x.desc.which s.shape.ranks rank j in
        let was = whole.files rank j row there o ((partly p q (low (rank / s.shape.ranks))).outcomes o may) in
        (was.0, was.1 ∙ sym (same p q (low (rank / s.shape.ranks))));
  }

  contents_on : contents_in (cells_of after) places s.shape.ranks ≡ contents_in (cells_of states) places s.shape.ranks
  contents_on = fun_ext (λ which. fun_ext (λ rank. fun_ext (λ j. pick which rank j (is_named which rank j)))) where
    pick : (which : DataId) (rank j : ℕ) (b : Bool) → (if b then bytes_of (cells_of after (place_of_rank places s.shape.ranks rank) (file_name which s.shape.ranks rank j)) else []) ≡ (if b then bytes_of (cells_of states (place_of_rank places s.shape.ranks rank) (file_name which s.shape.ranks rank j)) else [])
    pick which rank j true = ap bytes_of (same (place_of_rank places s.shape.ranks rank) (file_name which s.shape.ranks rank j) (low (rank / s.shape.ranks)))
    pick which rank j false = refl

  pub kept_on : LeavesKept s places states m → LeavesKept s places after m
  kept_on l = record {
    sets = l.sets;
    kept = l.kept ∙ ap (λ (bytes : Contents). map (kept_of s bytes places) l.sets) (sym contents_on);
    places_are = l.places_are;
    of_site = l.of_site;
    rise = l.rise;
    index = l.index;
    cache = record {
      whole = λ i x at. whole_on x.manifest (l.cache.whole i x at);
      sealed = λ i x at sure node p home. synced_open ((states p).file (record_name x.manifest.desc.which node)) ((after p).file (record_name x.manifest.desc.which node)) 1 (partly p (record_name x.manifest.desc.which node) (home_low node p home)) (l.cache.sealed i x at sure node p home);
      away = λ i x at p node lw place off o may. l.cache.away i x at p node lw place off o ((partly p (record_name x.manifest.desc.which node) lw).outcomes o may);
      others = λ p which node lw at none o may. l.cache.others p which node lw at none o ((partly p (record_name which node) lw).outcomes o may);
    };
  }

-- still nothing of a later run
pub later_on : (states after : ℕ → DeviceState) (run : ℕ) → ((p : ℕ) (q : List ℕ) → p < 32 → IsPartlySynced ((states p).file q) ((after p).file q)) → NoLater states run → NoLater after run
later_on states after run partly none p which node low at later o may = none p which node low at later o ((partly p (record_name which node) low).outcomes o may)
