-- What a stop may leave of the cache of a run is what its devices hold for the datasets that the machine keeps.
use Rattle.std.proofs.Common.{◌≡◌, ◌≢◌, ◌⊎◌, inl, inr, ◌<◌, ◌+◌, ◌*◌, ◌/◌, ◌%◌, ℕ, true, false, List, [], ◌∷◌, map, Option, Some, None, refl, sym, ◌∙◌, ap, ap₂, subst, arith}
use Rattle.std.specs.Prelude.{slice_get, slice_index, option_map}
use Rattle.std.specs.List.{list_any}
use Rattle.std.proofs.lemmas.Bool.{cases_eq}
use Rattle.std.proofs.lemmas.Nat.{div-mul-add, mod-mul-add}
use Rattle.std.proofs.lemmas.Option.{slice_get-map, slice_get_within, slice_get-get_or, get_or_from_slice_get}
use Rattle.std.proofs.lemmas.List.FromFn.{length-range_with_len, get_or-range_with_len}
use Rattle.scr_base.specs.Sets.{numbers_below}
use Rattle.scr_base.specs.declared.shape.DataId.{DataId}
use Rattle.node_device.specs.File.{MayLeave}
use Rattle.node_device.specs.DeviceState.{DeviceState}
use Rattle.filemap.specs.Maps.{rows_of}
use Rattle.member_store.specs.Names.{part_name}
use Rattle.member_store.specs.declared.part.Part.TheVariants.{File as FilePart}
use Rattle.ckpt_model.specs.Dataset.{File as RankFile}
use Rattle.ckpt_model.specs.Machine.{Machine, Setup, Kept, MemberState}
use Rattle.ckpt_model.specs.Questions.{is_kept, is_id_of}
use Rattle.ckpt_model.proofs.ShowsLemmas.{mapped_at}
use Rattle.site_state.specs.declared.cache.Cached.{Cached}
use Rattle.site_state.specs.declared.cache.Manifest.{Manifest}
use Rattle.site_state.specs.Shown.{Contents, kept_of, set_of, is_doubtful}
use Rattle.site_core.specs.Stored.{Cells, cells_of, contents_in, place_of_rank, file_name, FilesStand, IsOfSite}
use Rattle.site_core.specs.Left.{LeavesKept, IsNoneOf, NoLater}
use Rattle.site_core.proofs.Puts.{place_is}
use Rattle.site_state.proofs.Hands.{rank_files_are}
use Rattle.site_core.proofs.Stands.Contents.{names_are, lengths_are, long_are, node_holds, file_at}
use Rattle.site_stands.specs.Cells.{physical_nodes}
use Rattle.site_stands.specs.Described.{Describes, IsFileAt, is_single}
use Rattle.site_stands.specs.View.{Reads}
use Rattle.site_stands.specs.Members.{MemberStands, NodeStands, KeptStands}
use Rattle.site_stands.specs.Site.{NodesStand}
use Rattle.site_stands.proofs.Lists.{not_both, physical_low, all_at, alone}
use Rattle.site_stands.proofs.Keeping.Kept.{read_place}
use Rattle.site_stands.proofs.Losing.Node.{none_reads}

-- ## A dataset by its files

-- the dataset of a manifest, where its files are as long as it says
pub dataset_tells : (s : Setup) (cells : Cells) (run : ℕ) (x : Manifest) → IsOfSite s.shape run x → FilesStand cells (numbers_below s.shape.nodes) s.shape.ranks x
    → Describes s.shape x.desc x.files (set_of s (contents_in cells (numbers_below s.shape.nodes) s.shape.ranks) x)
dataset_tells s cells run x of stand =
    let bytes = contents_in cells (numbers_below s.shape.nodes) s.shape.ranks x.desc.which in
    record {
      which = refl;
      name = refl;
      flags = refl;
      site = refl;
      scheme = refl;
      size = refl;
      names = names_are bytes 0 x.files;
      lengths = lengths_are bytes 0 x.files (long_are s cells run x of stand);
      named = of.named;
      nodes = of.nodes;
      ranks = of.ranks;
      map = of.files;
    }

pub home_of : (n p : ℕ) → p < n → slice_get (numbers_below n) p ≡ Some p
home_of n p lt = slice_get-get_or (numbers_below n) p 0 (omega (arith, lt, length-range_with_len 0 n)) ∙ ap Some (get_or-range_with_len 0 n p 0 lt ∙ (let e : 0 + p ≡ p = omega arith in e))

pub home_below : (n node p : ℕ) → slice_get (numbers_below n) node ≡ Some p → node < n
home_below n node p at = omega (arith, slice_get_within (numbers_below n) node p at, length-range_with_len 0 n)

pub home_is : (n node p : ℕ) → slice_get (numbers_below n) node ≡ Some p → p ≡ node
home_is n node p at = sym (get_or_from_slice_get (numbers_below n) node p 0 at) ∙ get_or-range_with_len 0 n node 0 (home_below n node p at) ∙ (let e : 0 + node ≡ node = omega arith in e)

abbrev at_home : ℕ → MemberState
at_home p = record { homes = p ∷ []; unsure = false }

-- ## What a cut run leaves of its cache

module _ (s : Setup) (states : ℕ → DeviceState) (m : Machine) (left : LeavesKept s (numbers_below s.shape.nodes) states m) (law : (p : ℕ) (q : List ℕ) → MayLeave ((states p).file q) ((states p).file q).now)
    (plain : (i : ℕ) (x : Cached) → slice_get left.sets i ≡ Some x → is_single x.manifest.desc.scheme ≡ true) (later : NoLater states m.run) where
  abbrev places : List ℕ
  places = numbers_below s.shape.nodes

  abbrev bytes : Contents
  bytes = contents_in (cells_of states) places s.shape.ranks

  low_node : (node : ℕ) → node < s.shape.nodes → node < physical_nodes s.shape
  low_node node lt = omega (arith, lt)

  files_now : (i : ℕ) (x : Cached) → slice_get left.sets i ≡ Some x → FilesStand (cells_of states) places s.shape.ranks x.manifest
  files_now i x at rank j row there =
      let p = place_of_rank places s.shape.ranks rank in
      let q = file_name x.manifest.desc.which s.shape.ranks rank j in
      ((left.cache.whole i x at).files rank j row there ((states p).file q).now (law p q)).0

  member_stands : (i : ℕ) (x : Cached) (node : ℕ) → slice_get left.sets i ≡ Some x → node < s.shape.nodes → MemberStands s.shape (states node) (set_of s bytes x.manifest) node
  member_stands i x node at lt = record {
    desc = x.manifest.desc;
    rows = x.manifest.files;
    describes = dataset_tells s (cells_of states) m.run x.manifest (left.of_site i x at) (files_now i x at);
    small = lt;
    body = ((left.cache.whole i x at).records node node (home_of s.shape.nodes node lt)).has;
    files = λ local j f there o may. file_left local j f there o may;
    shares = λ local low coded. not_both (is_single x.manifest.desc.scheme) (plain i x at) coded;
  }
    where
      file_left : (local j : ℕ) (f : RankFile) → IsFileAt s.shape (set_of s bytes x.manifest) node local j f → (o : Option (List ℕ)) → MayLeave ((states node).file (part_name x.manifest.desc.which node (FilePart local j))) o → o ≡ Some f.bytes
      file_left local j f there o may =
          let rank = node * s.shape.ranks + local in
          let got = file_at (bytes x.manifest.desc.which rank) 0 (rows_of x.manifest.files rank) j f (ap (λ (fs : List RankFile). slice_get fs j) (sym (rank_files_are s bytes x.manifest rank)) ∙ there.1) in
          let node_is : rank / s.shape.ranks ≡ node = div-mul-add node s.shape.ranks local there.0 in
          let local_is : rank % s.shape.ranks ≡ local = mod-mul-add node s.shape.ranks local there.0 in
          let place : place_of_rank places s.shape.ranks rank ≡ node = ap (slice_index places) node_is ∙ place_is s.shape places node refl lt in
          let name : file_name x.manifest.desc.which s.shape.ranks rank j ≡ part_name x.manifest.desc.which node (FilePart local j) = ap₂ (λ (n l : ℕ). part_name x.manifest.desc.which n (FilePart l j)) node_is local_is in
          let here = subst (λ (p : ℕ). MayLeave ((states p).file (file_name x.manifest.desc.which s.shape.ranks rank j)) o) (sym place) (subst (λ (q : List ℕ). MayLeave ((states node).file q) o) (sym name) may) in
          ((left.cache.whole i x at).files rank j got.0 got.1 o here).1
          ∙ ap₂ (λ (p : ℕ) (q : List ℕ). cells_of states p q) place name
          ∙ node_holds s (cells_of states) m.run x.manifest (left.of_site i x at) (files_now i x at) node local j f there.0 there.1

  home_or_not : (node p : ℕ) → (slice_get places node ≡ Some p) ⊎ (slice_get places node ≡ Some p → ⊥)
  home_or_not node p = pick (slice_get places node) where
    some_same : (x y : ℕ) → Some x ≡ Some y → x ≡ y
    some_same x y e = cc

    one : (x : ℕ) → (x ≡ p) ⊎ (x ≢ p) → (Some x ≡ Some p) ⊎ (Some x ≡ Some p → ⊥)
    one x (inl is) = inl (ap Some is)
    one x (inr other) = inr (λ e. other (some_same x p e))

    pick : (o : Option ℕ) → (o ≡ Some p) ⊎ (o ≡ Some p → ⊥)
    pick None = inr (λ e. absurd (cc e))
    pick (Some x) = one x (cases_eq x p)

  kept_stands : (i : ℕ) (x : Cached) → slice_get left.sets i ≡ Some x → KeptStands s.shape states (kept_of s bytes places x)
  kept_stands i x at node st is =
      let of = mapped_at at_home places node st is in
      let lt = home_below s.shape.nodes node of.0 of.1 in
      let place_here = home_is s.shape.nodes node of.0 of.1 in
      subst (λ (y : MemberState). NodeStands s.shape states (set_of s bytes x.manifest) (is_doubtful x.mark) node y) (sym (of.2 ∙ ap at_home place_here)) (record {
        present = λ home sure. record {
          home = node;
          is_home = alone node node refl;
          place = low_node node lt;
          member = member_stands i x node at lt;
          whole = ((left.cache.whole i x at).records node node (home_of s.shape.nodes node lt)).is_open;
          sealed = λ certain. left.cache.sealed i x at certain node node (home_of s.shape.nodes node lt);
        };
        exact = λ p low o may reads opens. elim (home_or_not node p) [
          | inl home ↦ record { is_home = alone p node (home_is s.shape.nodes node p home); member = subst (λ (q : ℕ). MemberStands s.shape (states q) (set_of s bytes x.manifest) node) (sym (home_is s.shape.nodes node p home)) (member_stands i x node at lt) }
          | inr off ↦ absurd (none_reads s x.manifest.desc.which node (subst (λ (y : Option (List ℕ)). Reads s.shape y x.manifest.desc.which node) (left.cache.away i x at p node (omega (arith, low, physical_low s.shape)) (read_place s.shape o x.manifest.desc.which node reads) off o may) reads))
        ];
      })

  none_of : (which : DataId) → is_kept m which ≡ false → IsNoneOf left.sets which
  none_of which not i x at same =
      let there = any_one left.sets i x at in
      let kept : list_any (is_id_of which) (map (kept_of s bytes places) left.sets) ≡ false = subst (λ (ks : List Kept). list_any (is_id_of which) ks ≡ false) left.kept not in
      absurd (let t = subst (λ (w : DataId). list_any (is_id_of w) (map (kept_of s bytes places) left.sets) ≡ true) same there in cc (t, kept))
    where
      any_one : (sets : List Cached) (j : ℕ) (y : Cached) → slice_get sets j ≡ Some y → list_any (is_id_of y.manifest.desc.which) (map (kept_of s bytes places) sets) ≡ true
      any_one sets j y there = Rattle.site_stands.proofs.Lists.any_there (kept_of s bytes places y) (map (kept_of s bytes places) sets) j (slice_get-map (kept_of s bytes places) sets j ∙ ap (option_map (kept_of s bytes places)) there)

  -- What a cut run leaves of its cache is what the devices hold for that state.
  pub cache_stands : NodesStand s states m
  cache_stands = record {
    kept = λ i k at.
        let of = mapped_at (kept_of s bytes places) left.sets i k (ap (λ (ks : List Kept). slice_get ks i) (sym left.kept) ∙ at) in
        subst (λ (y : Kept). KeptStands s.shape states y) (sym of.2) (kept_stands i of.0 of.1);
    others = λ which not p node low o may reads opens seals. left.cache.others p which node (omega (arith, low, physical_low s.shape)) (read_place s.shape o which node reads) (none_of which not) o may seals;
    later = λ which after p node low o may reads. none_reads s which node (subst (λ (y : Option (List ℕ)). Reads s.shape y which node) (later p which node (omega (arith, low, physical_low s.shape)) (read_place s.shape o which node reads) after o may) reads);
  }
