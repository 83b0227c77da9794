-- What is said of one dataset, entry or pair stays so while another's files are changed, and through every sync, done or refused.
use Rattle.std.proofs.Common.{◌≡◌, ◌≢◌, ◌<◌, ◌≤◌, ◌+◌, ◌*◌, ◌^◌, inl, inr, ℕ, Bool, false, List, [], length, map, Option, Some, None, refl, sym, ◌∙◌, ap, subst, arith}
use Rattle.std.specs.Prelude.{slice_get, option_map, unwrap_or, All, codes}
use Rattle.std.proofs.lemmas.Bool.Decides.{nat_tests}
use Rattle.std.proofs.lemmas.Option.{slice_get_within, slice_get-map}
use Rattle.scr_base.specs.declared.shape.DataId.{DataId}
use Rattle.scr_base.specs.declared.shape.Shape.{Shape}
use Rattle.node_device.specs.File.{File, MayLeave}
use Rattle.node_device.specs.DeviceState.{DeviceState}
use Rattle.gated_record.specs.PairStages.{PairLeaves}
use Rattle.gated_record.specs.declared.pair.PairValue.{PairValue}
use Rattle.gate_outcomes.specs.Leaves.{Leaves}
use Rattle.dataset_desc.specs.declared.desc.Desc.{Desc}
use Rattle.filemap.specs.Rows.{IsRows}
use Rattle.filemap.specs.declared.rows.FileRow.{FileRow}
use Rattle.member_store.specs.Names.{record_name, part_name, IsPlace}
use Rattle.member_store.specs.declared.part.Part.TheVariants.{File as FilePart, Share as SharePart}
use Rattle.ckpt_model.specs.Dataset.{Dataset, files_of, File as RankFile}
use Rattle.ckpt_model.specs.Machine.{Machine, Setup, Kept, MemberState, Entry, EntryMark, Pending}
use Rattle.ckpt_model.specs.Questions.{is_kept}
use Rattle.ckpt_model.specs.Stops.{pending_of}
use Rattle.ckpt_model.proofs.ShowsLemmas.{mapped_at}
use Rattle.site_stands.specs.Cells.{physical_nodes, prefix_place}
use Rattle.site_stands.specs.Entry.{entry_name, flushed_name, ReadsEntry}
use Rattle.site_stands.specs.Described.{Describes, IsFileAt}
use Rattle.site_stands.specs.View.{Reads}
use Rattle.site_stands.specs.Members.{MemberStands, HomeHolds, NodeStands, KeptStands, NoneSealed, NoneReads}
use Rattle.site_stands.specs.Prefix.{EntryStands, GatesFit, EntryHolds, OfEntry, IsIndexed, PairsStand}
use Rattle.site_stands.specs.Site.{NodesStand, PrefixStands, SiteStands}
use Rattle.site_stands.specs.Frame.{LeavesNoMore, KeepsAll, KeepsDataset, KeepsPrefix, KeepsEntry, KeepsPair}
use Rattle.site_stands.specs.Moves.{MovesDataset, HoldsOne, MovesEntry, EntryOne}
use Rattle.site_stands.proofs.Lists.{physical_low, same_or_other}

pub leaves_kept : (P : Option (List ℕ) → Type 0) (f g : File) → LeavesNoMore f g → Leaves f P → Leaves g P
leaves_kept P f g no_more leaves o may = leaves o (no_more o may)

pub same_file : (f g : File) → g ≡ f → LeavesNoMore f g
same_file f g same o may = subst (λ (x : File). MayLeave x o) same may

-- ## Names

pub few_nodes : (shape : Shape) → shape.nodes ≤ 16
few_nodes shape = grind (arith, nat_tests, shape.limits)

pub few_ranks : (shape : Shape) → shape.ranks ≤ 8
few_ranks shape = grind (arith, nat_tests, shape.limits)

pub desc_place : (d : Desc) (node : ℕ) → node < 2 ^ 8 → IsPlace d.which node
desc_place d node small = record { id = grind (arith, d.ranges); run = grind (arith, d.ranges); small = small }

pub read_place : (shape : Shape) (o : Option (List ℕ)) (which : DataId) (node : ℕ) → Reads shape o which node → IsPlace which node
read_place shape o which node r = subst (λ (w : DataId). IsPlace w node) (r.1.reads.member.which ∙ r.1.which_is) (desc_place r.0.desc node (omega (arith, r.1.reads.member.node, r.1.reads.member.nodes, r.1.node_is, few_nodes shape)))

pub told_place : (shape : Shape) (desc : Desc) (rows : List (List FileRow)) (d : Dataset) (node : ℕ) → Describes shape desc rows d → node < shape.nodes → IsPlace d.which node
told_place shape desc rows d node describes small = subst (λ (w : DataId). IsPlace w node) describes.which (desc_place desc node (omega (arith, small, few_nodes shape)))

all_of_at : {A : Type 0} (P : A → Type 0) (xs : List A) (i : ℕ) (x : A) → All P xs → slice_get xs i ≡ Some x → P x
all_of_at P xs i x all at = subst P (Rattle.std.proofs.lemmas.Option.get_or_from_slice_get xs i x x at) (Rattle.std.proofs.lemmas.List.Elements.All-get_or P xs i x (slice_get_within xs i x at) all)

-- a rank has few files
pub few_files : (shape : Shape) (desc : Desc) (rows : List (List FileRow)) (d : Dataset) (rank j : ℕ) (f : RankFile) → Describes shape desc rows d → slice_get (files_of d rank) j ≡ Some f → j < 2 ^ 8
few_files shape desc rows d rank j f describes at = pick (slice_get d.files rank) refl at
  where
    pick : (o : Option (List RankFile)) → slice_get d.files rank ≡ o → slice_get (unwrap_or o []) j ≡ Some f → j < 2 ^ 8
    pick None is there = absurd (cc there)
    pick (Some fs) is there =
        let named : slice_get (map (map (λ (row : FileRow). row.name)) rows) rank ≡ Some (map (λ (x : RankFile). x.name) fs) =
        ap (λ (l : List (List (List ℕ))). slice_get l rank) describes.names ∙ slice_get-map (map (λ (x : RankFile). x.name)) d.files rank ∙ ap (option_map (map (λ (x : RankFile). x.name))) is in
        let row = mapped_at (map (λ (row : FileRow). row.name)) rows rank (map (λ (x : RankFile). x.name) fs) named in
        let few = (all_of_at IsRows rows rank row.0 describes.map.rows row.1).few in
        let len : length fs ≡ length row.0 = sym (Rattle.std.proofs.lemmas.List.length-map fs (λ (x : RankFile). x.name)) ∙ ap length row.2 ∙ Rattle.std.proofs.lemmas.List.length-map row.0 (λ (r : FileRow). r.name) in
        omega (arith, slice_get_within fs j f there, len, few)

-- ## One dataset

module _ (shape : Shape) (old new : ℕ → DeviceState) (which : DataId) (keeps : KeepsDataset shape which old new) where
  record_kept : (P : Option (List ℕ) → Type 0) (p node : ℕ) → p < physical_nodes shape → IsPlace which node → Leaves ((old p).file (record_name which node)) P → Leaves ((new p).file (record_name which node)) P
  record_kept P p node low place leaves = leaves_kept P ((old p).file (record_name which node)) ((new p).file (record_name which node)) (keeps p node (record_name which node) low place (inl refl)) leaves

  pub none_sealed_kept : NoneSealed shape old which → NoneSealed shape new which
  none_sealed_kept none p node low o may reads opens seals = none p node low o (keeps p node (record_name which node) low (read_place shape o which node reads) (inl refl) o may) reads opens seals

  pub none_reads_kept : NoneReads shape old which → NoneReads shape new which
  none_reads_kept none p node low o may reads = none p node low o (keeps p node (record_name which node) low (read_place shape o which node reads) (inl refl) o may) reads

module _ (shape : Shape) (old new : ℕ → DeviceState) (d : Dataset) (keeps : KeepsDataset shape d.which old new) where
  pub member_kept : (p node : ℕ) → p < physical_nodes shape → MemberStands shape (old p) d node → MemberStands shape (new p) d node
  member_kept p node low is =
      let place = told_place shape is.desc is.rows d node is.describes is.small in
      record {
        desc = is.desc;
        rows = is.rows;
        describes = is.describes;
        small = is.small;
        body = λ o may. is.body o (keeps p node (record_name d.which node) low place (inl refl) o may);
        files = λ local j f at. part local j f at place;
        shares = λ local lt coded.
            let share = is.shares local lt coded in
            record {
              share = share.share;
              is = share.is;
              stands = leaves_kept (λ o. o ≡ Some share.share) ((old p).file (part_name d.which node (SharePart local))) ((new p).file (part_name d.which node (SharePart local))) (keeps p node (part_name d.which node (SharePart local)) low place (inr (SharePart local, local_small local lt, refl))) share.stands;
            };
      }
    where
      local_small : (local : ℕ) → local < shape.ranks → local < 2 ^ 8
      local_small local lt = omega (arith, lt, few_ranks shape)

      part : (local j : ℕ) (f : RankFile) → IsFileAt shape d node local j f → IsPlace d.which node → Leaves ((new p).file (part_name d.which node (FilePart local j))) (λ o. o ≡ Some f.bytes)
      part local j f at place = leaves_kept (λ o. o ≡ Some f.bytes) ((old p).file (part_name d.which node (FilePart local j))) ((new p).file (part_name d.which node (FilePart local j)))
          (keeps p node (part_name d.which node (FilePart local j)) low place (inr (FilePart local j, (local_small local at.0, few_files shape is.desc is.rows d (node * shape.ranks + local) j f is.describes at.1), refl))) (is.files local j f at)

  pub home_kept : (doubt : Bool) (node : ℕ) (homes : List ℕ) → HomeHolds shape old d doubt node homes → HomeHolds shape new d doubt node homes
  home_kept doubt node homes h =
      let place = told_place shape h.member.desc h.member.rows d node h.member.describes h.member.small in
      let no_more = keeps h.home node (record_name d.which node) h.place place (inl refl) in
      record {
        home = h.home;
        is_home = h.is_home;
        place = h.place;
        member = member_kept h.home node h.place h.member;
        whole = λ o may. h.whole o (no_more o may);
        sealed = λ certain o may. h.sealed certain o (no_more o may);
      }

  pub node_kept : (doubt : Bool) (node : ℕ) (st : MemberState) → NodeStands shape old d doubt node st → NodeStands shape new d doubt node st
  node_kept doubt node st stands = record {
    present = λ home sure. home_kept doubt node st.homes (stands.present home sure);
    exact = λ p low o may reads opens.
        let copy = stands.exact p low o (keeps p node (record_name d.which node) low (read_place shape o d.which node reads) (inl refl) o may) reads opens in
        record { is_home = copy.is_home; member = member_kept p node low copy.member };
  }

-- a dataset in cache none of whose files a stop may leave otherwise
pub kept_kept : (shape : Shape) (old new : ℕ → DeviceState) (k : Kept) → KeepsDataset shape k.dataset.which old new → KeptStands shape old k → KeptStands shape new k
kept_kept shape old new k keeps stands node st at = node_kept shape old new k.dataset keeps k.doubt node st (stands node st at)

-- ## The nodes

-- a sync, done or refused, a read, and every move on the prefix
pub nodes_kept : (s : Setup) (old new : ℕ → DeviceState) (m : Machine) → ((which : DataId) → KeepsDataset s.shape which old new) → NodesStand s old m → NodesStand s new m
nodes_kept s old new m keeps stands = record {
  kept = λ i k at. kept_kept s.shape old new k (keeps k.dataset.which) (stands.kept i k at);
  others = λ which not. none_sealed_kept s.shape old new which (keeps which) (stands.others which not);
  later = λ which later. none_reads_kept s.shape old new which (keeps which) (stands.later which later);
}

-- the files of one dataset were changed, and it still holds
pub nodes_step : (s : Setup) (old new : ℕ → DeviceState) (m : Machine) (which : DataId) → ((other : DataId) → other ≢ which → KeepsDataset s.shape other old new) → HoldsOne s which old new m → NodesStand s old m → NodesStand s new m
nodes_step s old new m which keeps one stands = record {
  kept = λ i k at. elim (same_or_other k.dataset.which which) [
    | inl same ↦ one.kept i k at same (stands.kept i k at)
    | inr other ↦ kept_kept s.shape old new k (keeps k.dataset.which other) (stands.kept i k at)
  ];
  others = λ w not. elim (same_or_other w which) [
    | inl same ↦ subst (λ (x : DataId). NoneSealed s.shape new x) (sym same) (one.others (subst (λ (x : DataId). is_kept m x ≡ false) same not) (subst (λ (x : DataId). NoneSealed s.shape old x) same (stands.others w not)))
    | inr other ↦ none_sealed_kept s.shape old new w (keeps w other) (stands.others w not)
  ];
  later = λ w later. elim (same_or_other w which) [
    | inl same ↦ subst (λ (x : DataId). NoneReads s.shape new x) (sym same) (one.later (subst (λ (x : DataId). m.run < x.run) same later) (subst (λ (x : DataId). NoneReads s.shape old x) same (stands.later w later)))
    | inr other ↦ none_reads_kept s.shape old new w (keeps w other) (stands.later w later)
  ];
}

-- ## The prefix

pair_kept : (stem : List ℕ) (P : Option PairValue → Type 0) (old new : DeviceState) → KeepsPair stem old new → PairLeaves stem old P → PairLeaves stem new P
pair_kept stem P old new keeps leaves a b may_a may_b = leaves a b (keeps (Rattle.gated_record.specs.Pair.copy_name stem 0) (inl refl) a may_a) (keeps (Rattle.gated_record.specs.Pair.copy_name stem 1) (inr refl) b may_b)

gates_kept : (f g : File) (p : Pending) (e : Entry) (mark : EntryMark) → LeavesNoMore f g → GatesFit p e mark f → GatesFit p e mark g
gates_kept f g p e EntryMark.Indexing no_more fits = λ o may. fits o (no_more o may)
gates_kept f g p e EntryMark.Flushed no_more fits = (λ drop o may. fits.0 drop o (no_more o may), λ o may. fits.1 o (no_more o may))
gates_kept f g p e EntryMark.Failing no_more fits = λ o may. fits o (no_more o may)
gates_kept f g p e EntryMark.Failed no_more fits = (λ drop o may. fits.0 drop o (no_more o may), λ o may. fits.1 o (no_more o may))

pub entry_kept : (shape : Shape) (old new : DeviceState) (p : Pending) (e : Entry) → KeepsEntry e.dataset old new → EntryHolds shape old p e → EntryHolds shape new p e
entry_kept shape old new p e keeps holds = record {
  stands = record {
    desc = holds.stands.desc;
    rows = holds.stands.rows;
    describes = holds.stands.describes;
    body = λ o may. holds.stands.body o (keeps.record_file o may);
    flushed = λ rank j f at o may. holds.stands.flushed rank j f at o (keeps.flushed rank j f at o may);
  };
  gates = gates_kept (old.file (entry_name e.dataset.which)) (new.file (entry_name e.dataset.which)) p e e.mark keeps.record_file holds.gates;
}

-- the files of one entry were changed, and it still holds
pub entry_step : (s : Setup) (old new : DeviceState) (m : Machine) (which : DataId) → MovesEntry which m old new → EntryOne s which old new m → PrefixStands s old m → PrefixStands s new m
entry_step s old new m which moves one stands = record {
  entries = λ i e at. elim (same_or_other e.dataset.which which) [
    | inl same ↦ one.entries i e at same (stands.entries i e at)
    | inr other ↦ entry_kept s.shape old new (pending_of m.stage) e (moves.entries i e at other) (stands.entries i e at)
  ];
  others = λ w. elim (same_or_other w which) [
    | inl same ↦ subst (λ (x : DataId). IsIndexed new m x) (sym same) (one.others (subst (λ (x : DataId). IsIndexed old m x) same (stands.others w)))
    | inr other ↦ (λ o may. stands.others w o (moves.records w other o may))
  ];
  later = λ w later. elim (same_or_other w which) [
    | inl same ↦ subst (λ (x : DataId). Leaves (new.file (entry_name x)) (λ o. ReadsEntry o x → ⊥)) (sym same) (one.later (subst (λ (x : DataId). m.run < x.run) same later) (subst (λ (x : DataId). Leaves (old.file (entry_name x)) (λ o. ReadsEntry o x → ⊥)) same (stands.later w later)))
    | inr other ↦ (λ o may. stands.later w later o (moves.records w other o may))
  ];
  pairs = record {
    run = pair_kept (codes "run") (λ v. Rattle.site_stands.specs.Prefix.IsRunOf m (Rattle.site_stands.specs.View.run_in v)) old new moves.run stands.pairs.run;
    halt = pair_kept (codes "halt") (λ v. (took : Bool) × (Rattle.halt_file.specs.Stores.halt_in v ≡ Rattle.ckpt_model.specs.Stops.halt_left (pending_of m.stage) took m.halt)) old new moves.halt stands.pairs.halt;
    mark = pair_kept (codes "cur") (λ v. (took : Bool) × (Rattle.site_stands.specs.Entry.mark_in v ≡ Rattle.ckpt_model.specs.Stops.mark_left (pending_of m.stage) took m.mark)) old new moves.mark stands.pairs.mark;
  };
}

-- a sync of the prefix, done or refused, a read, and every move on the nodes
pub prefix_kept : (s : Setup) (old new : DeviceState) (m : Machine) → KeepsPrefix old new → PrefixStands s old m → PrefixStands s new m
prefix_kept s old new m keeps stands = record {
  entries = λ i e at. entry_kept s.shape old new (pending_of m.stage) e (record { record_file = keeps (entry_name e.dataset.which); flushed = λ rank j f there. keeps (flushed_name e.dataset.name rank f.name) }) (stands.entries i e at);
  others = λ w o may. stands.others w o (keeps (entry_name w) o may);
  later = λ w later o may. stands.later w later o (keeps (entry_name w) o may);
  pairs = record {
    run = pair_kept (codes "run") (λ v. Rattle.site_stands.specs.Prefix.IsRunOf m (Rattle.site_stands.specs.View.run_in v)) old new (λ q is. keeps q) stands.pairs.run;
    halt = pair_kept (codes "halt") (λ v. (took : Bool) × (Rattle.halt_file.specs.Stores.halt_in v ≡ Rattle.ckpt_model.specs.Stops.halt_left (pending_of m.stage) took m.halt)) old new (λ q is. keeps q) stands.pairs.halt;
    mark = pair_kept (codes "cur") (λ v. (took : Bool) × (Rattle.site_stands.specs.Entry.mark_in v ≡ Rattle.ckpt_model.specs.Stops.mark_left (pending_of m.stage) took m.mark)) old new (λ q is. keeps q) stands.pairs.mark;
  };
}

-- ## The site

-- A move of one dataset's files on the nodes: that dataset alone is left to show.
pub dataset_step : (s : Setup) (old new : ℕ → DeviceState) (m : Machine) (which : DataId) → MovesDataset s.shape which old new → HoldsOne s which old new m → SiteStands s old m → SiteStands s new m
dataset_step s old new m which moves one stands = record { proper = stands.proper; nodes = nodes_step s old new m which moves.others one stands.nodes; prefix = prefix_kept s (old prefix_place) (new prefix_place) m moves.prefix stands.prefix }

-- A sync, done or refused, and a read: nothing is left to show.
pub site_kept : (s : Setup) (old new : ℕ → DeviceState) (m : Machine) → KeepsAll old new → SiteStands s old m → SiteStands s new m
site_kept s old new m keeps stands = record {
  proper = stands.proper;
  nodes = nodes_kept s old new m (λ which p node q low place is. keeps p q (omega (arith, low, physical_low s.shape))) stands.nodes;
  prefix = prefix_kept s (old prefix_place) (new prefix_place) m (λ q. keeps prefix_place q (omega arith)) stands.prefix;
}
