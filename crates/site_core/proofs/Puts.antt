-- A file of the open dataset is put: what holds of all files then.
use Rattle.std.proofs.Common.{◌≡◌, ◌≢◌, ◌⊎◌, inl, inr, ℕ, zero, suc, ◌+◌, ◌*◌, ◌/◌, ◌<◌, ◌≤◌, ◌^◌, true, List, [], ◌∷◌, length, Option, Some, None, refl, sym, ap, ◌∙◌, subst, slice_get, arith}
use Rattle.std.specs.Prelude.{slice_index}
use Rattle.std.proofs.lemmas.Bool.{cases_eq}
use Rattle.std.proofs.lemmas.Option.{slice_get_within}
use Rattle.std.proofs.lemmas.List.{get_or-set_same, get_or-set_other, get_or_past, length-set}
use Rattle.std.proofs.lemmas.List.FromFn.{get_or-range_with_len, length-range_with_len}
use Rattle.std.proofs.Math.Nat.{div-lt_iff_lt-mul}
use Rattle.scr_base.specs.Sets.{numbers_below}
use Rattle.scr_base.specs.declared.shape.DataId.{DataId}
use Rattle.scr_base.specs.declared.shape.Shape.{Shape}
use Rattle.node_device.specs.File.{IsAtRest, File as OneFile}
use Rattle.node_device.specs.DeviceState.{DeviceState, ChangesOnly}
use Rattle.node_device.specs.Rack.{OnlyAt}
use Rattle.filemap.specs.Maps.{rows_of}
use Rattle.filemap.specs.declared.rows.FileRow.{FileRow}
use Rattle.site_state.specs.declared.cache.Cached.{Cached}
use Rattle.site_state.specs.declared.cache.Manifest.{Manifest}
use Rattle.site_state.specs.Cores.{with_rows, with_open}
use Rattle.site_state.specs.declared.run_state.RunState.{RunState}
use Rattle.site_state.specs.Choosing.{AreBelow}
use Rattle.site_core.specs.Stored.{Cells, cells_of, place_of_rank, file_name, FilesStand, FileStands, RecordIs, IsAmong, IsKnown, IsFuture, NoMoreFiles, IsWell, IsOfSite, FilesHold, ChangesFile}
use Rattle.site_core.proofs.Halts.{halt_same, unindexed_same}
use Rattle.site_core.proofs.Frames.{IsNamed, is_place, AreFilesSame, other_file, every_record, records_stay, future_stays, prefix_stays, stored_stays}
use Rattle.site_state.proofs.Shapes.{few_ranks, few_nodes, some_ranks}

-- ## A device's file

-- one file of one device changed
pub file_changes : (place : ℕ) (name : List ℕ) (old new : ℕ → DeviceState) → OnlyAt place (λ a b. ChangesOnly name a b) old new → ChangesFile place name (cells_of old) (cells_of new)
file_changes place name old new done = record {
  others = λ p q other. pick p q other (cases_eq p place);
  elsewhere = λ p q other. ap (λ (d : DeviceState). (d.file q).now) (done.others p other);
} where
  pick : (p : ℕ) (q : List ℕ) → q ≢ name → (p ≡ place) ⊎ (p ≢ place) → cells_of new p q ≡ cells_of old p q
  pick p q other (inl same) = subst (λ (x : ℕ). cells_of new x q ≡ cells_of old x q) (sym same) (ap (λ (f : OneFile). f.now) (done.here.others q other))
  pick p q other (inr away) = ap (λ (d : DeviceState). (d.file q).now) (done.others p away)

-- what is at rest under other names stays so
pub rest_stays : (place : ℕ) (name : List ℕ) (old new : ℕ → DeviceState) → OnlyAt place (λ a b. ChangesOnly name a b) old new → (p : ℕ) (q : List ℕ) → (p ≡ place → q ≢ name) → IsAtRest ((old p).file q) → IsAtRest ((new p).file q)
rest_stays place name old new done p q other rest = pick (cases_eq p place) where
  pick : (p ≡ place) ⊎ (p ≢ place) → IsAtRest ((new p).file q)
  pick (inl same) = subst (λ (x : ℕ). IsAtRest ((new x).file q)) (sym same) (subst (λ (f : OneFile). IsAtRest f) (sym (done.here.others q (other same))) (subst (λ (x : ℕ). IsAtRest ((old x).file q)) same rest))
  pick (inr away) = subst (λ (d : DeviceState). IsAtRest (d.file q)) (sym (done.others p away)) rest

-- ## Numbers

-- a row is a file of a rank that there is
pub row_rank : (files : List (List FileRow)) (rank j : ℕ) (row : FileRow) → slice_get (rows_of files rank) j ≡ Some row → rank < length files
row_rank files rank j row at = pick (below_or_not rank (length files)) where
  below_or_not : (a b : ℕ) → (a < b) ⊎ (b ≤ a)
  below_or_not a b = grind arith

  pick : (rank < length files) ⊎ (length files ≤ rank) → rank < length files
  pick (inl lt) = lt
  pick (inr le) = absurd (cc (ap (λ (rows : List FileRow). slice_get rows j) (sym (get_or_past files rank [] le)) ∙ at))

pub few_rows : (shape : Shape) (run : ℕ) (m : Manifest) (rank : ℕ) → IsOfSite shape run m → rank < length m.files → length (rows_of m.files rank) ≤ 16
few_rows shape run m rank of lt = (of.files.rows rank [] lt).few

pub row_named : (shape : Shape) (run : ℕ) (m : Manifest) (rank j : ℕ) → IsOfSite shape run m → rank < length m.files → j < 2 ^ 8 → IsNamed m.desc.which rank j
row_named shape run m rank j of lt small =
    let place = is_place m.desc 0 (omega arith) in
    record { id = place.id; run = place.run; rank_is = omega (arith, lt, of.files.ranks_are, few_ranks shape); file = small }

-- a rank's node is one of the site
pub node_below : (shape : Shape) (rank : ℕ) → rank < shape.nodes * shape.ranks → rank / shape.ranks < shape.nodes
node_below shape rank lt = (div-lt_iff_lt-mul {k = shape.ranks} {x = rank} {y = shape.nodes} (some_ranks shape)).1 lt

pub place_is : (shape : Shape) (places : List ℕ) (node : ℕ) → places ≡ numbers_below shape.nodes → node < shape.nodes → slice_index places node ≡ node
place_is shape places node is lt = ap (λ (ps : List ℕ). slice_index ps node) is ∙ get_or-range_with_len 0 shape.nodes node 0 lt ∙ (let e : 0 + node ≡ node = omega arith in e)

pub rank_place_low : (c : RunState) (rank : ℕ) → IsWell c → rank < c.shape.nodes * c.shape.ranks → place_of_rank c.places c.shape.ranks rank < 32
rank_place_low c rank w lt = omega (arith, place_is c.shape c.places (rank / c.shape.ranks) w.places (node_below c.shape rank lt), node_below c.shape rank lt, few_nodes c.shape)

pub below_of : (n : ℕ) (sets : List Cached) (i : ℕ) (x : Cached) → AreBelow n sets → slice_get sets i ≡ Some x → x.manifest.desc.which.id < n
below_of n [] i x below at = absurd (cc at)
below_of n (y ∷ ys) zero x below at = subst (λ (z : Cached). z.manifest.desc.which.id < n) (some_same y x at) below.0 where
  some_same : (a b : Cached) → Some a ≡ Some b → a ≡ b
  some_same a b e = cc
below_of n (y ∷ ys) (suc i) x below at = below_of n ys i x below.1 at

-- a dataset in cache isn't the open one
pub kept_other : (c : RunState) (m x : Manifest) → IsWell c → c.opened ≡ Some m → IsAmong c.kept x → x.desc.which ≢ m.desc.which
kept_other c m x w opened among same =
    let below = below_of m.desc.which.id c.kept among.0 among.1 (w.opened_last m opened) among.2 in
    absurd (omega (arith, below, ap (λ (y : Manifest). y.desc.which.id) among.3, ap (λ (d : DataId). d.id) same))

-- ## The open dataset's file

-- a rank's rows as they are after a put of its j-th file: the others as before, this one as long as its bytes
pub record IsPutRow (old new : List FileRow) (j len : ℕ) : Type 0 where
  pub others : (i : ℕ) (row : FileRow) → slice_get new i ≡ Some row → i ≢ j → slice_get old i ≡ Some row
  pub this : (row : FileRow) → slice_get new j ≡ Some row → row.len ≡ len
  pub there : j < length new
  pub longer : length old ≤ length new

some-eq : {X : Type 0} (x y : X) → Some x ≡ Some y → x ≡ y
some-eq x y e = cc

module _ (c : RunState) (m : Manifest) (rank j : ℕ) (rows : List FileRow) (bytes : List ℕ) (old new : Cells) (ranks : List Rattle.round_core.specs.declared.seat.Seat.Seat)
    (w : IsWell c) (f : FilesHold c old) (opened : c.opened ≡ Some m) (lt : rank < length m.files) (small : j < 2 ^ 8)
    (row : IsPutRow (rows_of m.files rank) rows j (length bytes))
    (change : ChangesFile (place_of_rank c.places c.shape.ranks rank) (file_name m.desc.which c.shape.ranks rank j) old new)
    (put : new (place_of_rank c.places c.shape.ranks rank) (file_name m.desc.which c.shape.ranks rank j) ≡ Some bytes) where
  abbrev of_site : IsOfSite c.shape c.run m
  of_site = w.sets m (inl opened)

  abbrev is_named_one : IsNamed m.desc.which rank j
  is_named_one = row_named c.shape c.run m rank j of_site lt small

  rank_low : rank < c.shape.nodes * c.shape.ranks
  rank_low = omega (arith, lt, of_site.files.ranks_are)

  pub place_low : place_of_rank c.places c.shape.ranks rank < 32
  place_low = rank_place_low c rank w rank_low

  -- the rows of every rank, as they are now
  rows_at_rank : rows_of (with_rows m rank rows).files rank ≡ rows
  rows_at_rank = get_or-set_same m.files rank rows [] lt

  rows_elsewhere : (r : ℕ) → r ≢ rank → rows_of (with_rows m rank rows).files r ≡ rows_of m.files r
  rows_elsewhere r other = get_or-set_other m.files rank r rows [] other

  stands_before : (r i : ℕ) (x : FileRow) → slice_get (rows_of m.files r) i ≡ Some x → (AreFilesSame m.desc.which r i m.desc.which rank j → ⊥) → FileStands (new (place_of_rank c.places c.shape.ranks r) (file_name m.desc.which c.shape.ranks r i)) x
  stands_before r i x at other =
      let rlt = row_rank m.files r i x at in
      let few = few_rows c.shape c.run m r of_site rlt in
      let n = row_named c.shape c.run m r i of_site rlt (omega (arith, few, slice_get_within (rows_of m.files r) i x at)) in
      let same = other_file old new c.places c.shape.ranks (place_of_rank c.places c.shape.ranks rank) m.desc.which rank j is_named_one change m.desc.which (place_of_rank c.places c.shape.ranks r) r i n other in
      subst (λ (o : Option (List ℕ)). FileStands o x) (sym same) (f.files m (inl opened) r i x at)

  pub open_files : FilesStand new c.places c.shape.ranks (with_rows m rank rows)
  open_files r i x at = pick (cases_eq r rank) where
    pick : (r ≡ rank) ⊎ (r ≢ rank) → FileStands (new (place_of_rank c.places c.shape.ranks r) (file_name m.desc.which c.shape.ranks r i)) x
    pick (inr other) = stands_before r i x (ap (λ (rs : List FileRow). slice_get rs i) (sym (rows_elsewhere r other)) ∙ at) (λ s. other s.rank_is)
    pick (inl same) = here (cases_eq i j) where
      at_rank : slice_get rows i ≡ Some x
      at_rank = ap (λ (rs : List FileRow). slice_get rs i) (sym rows_at_rank) ∙ subst (λ (k : ℕ). slice_get (rows_of (with_rows m rank rows).files k) i ≡ Some x) same at

      here : (i ≡ j) ⊎ (i ≢ j) → FileStands (new (place_of_rank c.places c.shape.ranks r) (file_name m.desc.which c.shape.ranks r i)) x
      here (inr other) = stands_before r i x (ap (λ (k : ℕ). slice_get (rows_of m.files k) i) same ∙ row.others i x at_rank other) (λ s. other s.file_is)
      here (inl this) = record {
        bytes = bytes;
        there = ap (λ (k : ℕ). new (place_of_rank c.places c.shape.ranks k) (file_name m.desc.which c.shape.ranks k i)) same ∙ ap (λ (k : ℕ). new (place_of_rank c.places c.shape.ranks rank) (file_name m.desc.which c.shape.ranks rank k)) this ∙ put;
        len = sym (row.this x (subst (λ (k : ℕ). slice_get rows k ≡ Some x) this at_rank));
      }

  kept_files : (x : Manifest) → IsAmong c.kept x → FilesStand new c.places c.shape.ranks x
  kept_files x among r i y at =
      let of = w.sets x (inr among) in
      let rlt = row_rank x.files r i y at in
      let few = few_rows c.shape c.run x r of rlt in
      let n = row_named c.shape c.run x r i of rlt (omega (arith, few, slice_get_within (rows_of x.files r) i y at)) in
      let same = other_file old new c.places c.shape.ranks (place_of_rank c.places c.shape.ranks rank) m.desc.which rank j is_named_one change x.desc.which (place_of_rank c.places c.shape.ranks r) r i n (λ s. kept_other c m x w opened among s.which_is) in
      subst (λ (o : Option (List ℕ)). FileStands o y) (sym same) (f.files x (inr among) r i y at)

  pub known_then : (x : Manifest) → IsKnown (with_open c (with_rows m rank rows) ranks) x → ((with_rows m rank rows) ≡ x) ⊎ IsAmong c.kept x
  known_then x (inl e) = inl (some-eq (with_rows m rank rows) x e)
  known_then x (inr among) = inr among

  pub put_files : (x : Manifest) → IsKnown (with_open c (with_rows m rank rows) ranks) x → FilesStand new c.places c.shape.ranks x
  put_files x known = pick (known_then x known) where
    pick : ((with_rows m rank rows) ≡ x) ⊎ IsAmong c.kept x → FilesStand new c.places c.shape.ranks x
    pick (inl e) = subst (λ (y : Manifest). FilesStand new c.places c.shape.ranks y) e open_files
    pick (inr among) = kept_files x among

  not_future : IsFuture c.run c.next m.desc.which → ⊥
  not_future (inl later) = absurd (omega (arith, later, of_site.run_is))
  not_future (inr same) = absurd (omega (arith, same.1, w.opened_below m opened))

  pub put_holds : FilesHold (with_open c (with_rows m rank rows) ranks) new
  put_holds = record {
    stored = stored_stays old new c.places c.shape.ranks (place_of_rank c.places c.shape.ranks rank) m.desc.which rank j is_named_one change place_low ∙ f.stored;
    halted = halt_same old new (prefix_stays old new c.places c.shape.ranks (place_of_rank c.places c.shape.ranks rank) m.desc.which rank j is_named_one change place_low) ∙ f.halted;
    unindexed = unindexed_same old new (prefix_stays old new c.places c.shape.ranks (place_of_rank c.places c.shape.ranks rank) m.desc.which rank j is_named_one change place_low) f.unindexed;
    files = put_files;
    records = λ i x at sealed node p home.
        let of = w.sets x.manifest (inr (i, x, at, refl)) in
        let n = is_place x.manifest.desc node (node_small node p home) in
        subst (λ (o : Option (List ℕ)). RecordIs o x.manifest node true true) (sym (every_record old new c.places c.shape.ranks (place_of_rank c.places c.shape.ranks rank) m.desc.which rank j is_named_one change x.manifest.desc.which p node n)) (f.records i x at sealed node p home);
    others = records_stay old new c.places c.shape.ranks (place_of_rank c.places c.shape.ranks rank) m.desc.which rank j is_named_one change (IsKnown (with_open c (with_rows m rank rows) ranks))
        (λ p which node low n foreign. f.others p which node low n (λ x known same home. foreign_too which node p foreign x known same home));
    future = future_stays old new c.places c.shape.ranks (place_of_rank c.places c.shape.ranks rank) m.desc.which rank j is_named_one change c.run c.next not_future f.future;
    fresh = λ x e. subst (λ (y : Manifest). NoMoreFiles new c.places c.shape.ranks y) (some-eq (with_rows m rank rows) x e) no_more;
  } where
    node_small : (node p : ℕ) → slice_get c.places node ≡ Some p → node < 2 ^ 8
    node_small node p home = omega (arith, slice_get_within c.places node p home, ap length w.places, length-range_with_len 0 c.shape.nodes, few_nodes c.shape)

    foreign_too : (which : DataId) (node p : ℕ) → ((x : Manifest) → IsKnown (with_open c (with_rows m rank rows) ranks) x → x.desc.which ≡ which → slice_get c.places node ≡ Some p → ⊥) → (x : Manifest) → IsKnown c x → x.desc.which ≡ which → slice_get c.places node ≡ Some p → ⊥
    foreign_too which node p foreign x (inl e) same home = foreign (with_rows m rank rows) (inl refl) (ap (λ (y : Manifest). y.desc.which) (some-eq m x (sym opened ∙ e)) ∙ same) home
    foreign_too which node p foreign x (inr among) same home = foreign x (inr among) same home

    no_more : NoMoreFiles new c.places c.shape.ranks (with_rows m rank rows)
    no_more r i rlow si past = pick (cases_eq r rank) where
      before : (AreFilesSame m.desc.which r i m.desc.which rank j → ⊥) → length (rows_of m.files r) ≤ i → r < length m.files → new (place_of_rank c.places c.shape.ranks r) (file_name m.desc.which c.shape.ranks r i) ≡ None
      before other le rlt = other_file old new c.places c.shape.ranks (place_of_rank c.places c.shape.ranks rank) m.desc.which rank j is_named_one change m.desc.which (place_of_rank c.places c.shape.ranks r) r i (row_named c.shape c.run m r i of_site rlt si) other ∙ f.fresh m opened r i rlt si le

      rlt_old : r < length m.files
      rlt_old = omega (arith, rlow, length-set m.files rank rows)

      pick : (r ≡ rank) ⊎ (r ≢ rank) → new (place_of_rank c.places c.shape.ranks r) (file_name m.desc.which c.shape.ranks r i) ≡ None
      pick (inr other) = before (λ s. other s.rank_is) (subst (λ (rs : List FileRow). length rs ≤ i) (rows_elsewhere r other) past) rlt_old
      pick (inl same) =
          let le : length rows ≤ i = subst (λ (rs : List FileRow). length rs ≤ i) rows_at_rank (subst (λ (k : ℕ). length (rows_of (with_rows m rank rows).files k) ≤ i) same past) in
          before (λ s. absurd (omega (arith, s.file_is, le, row.there))) (omega (arith, le, row.longer, ap (λ (k : ℕ). length (rows_of m.files k)) same)) (omega (arith, same, lt))
