-- Files, shares and records of a dataset are written and synced, before any gate is open.
use Rattle.std.proofs.Common.{◌+◌, ◌≡◌, ◌≢◌, ◌<◌, ◌≤◌, ◌==◌, inl, inr, ℕ, Bool, true, false, List, length, Option, Some, refl, sym, ◌∙◌, ap, subst, arith, ◌*◌}
use Rattle.std.specs.Prelude.{slice_get, if◌then◌else◌}
use Rattle.std.proofs.lemmas.Bool.{cases_eq}
use Rattle.std.proofs.lemmas.Bool.Decides.{nat_tests}
use Rattle.std.proofs.lemmas.Option.{slice_get_within}
use Rattle.scr_base.specs.declared.shape.DataId.{DataId}
use Rattle.scr_base.specs.declared.shape.Shape.{Shape}
use Rattle.node_device.specs.File.{File, IsPartlySynced}
use Rattle.node_device.specs.DeviceState.{DeviceState}
use Rattle.node_device.specs.Outcomes.{rest_leaves}
use Rattle.gated_record.specs.Record.{HasBody, HasShutGates}
use Rattle.member_store.specs.Names.{record_name, part_name, IsPlace, IsPart}
use Rattle.member_store.specs.Members.{member_body}
use Rattle.member_store.proofs.Distinct.{one_member}
use Rattle.member_store.proofs.PartNames.{part_no_record}
use Rattle.member_store.specs.declared.part.Part.{Part}
use Rattle.member_store.specs.declared.part.Part.TheVariants.{File as FilePart, Share as SharePart}
use Rattle.dataset_desc.specs.declared.desc.Desc.{Desc}
use Rattle.filemap.specs.declared.rows.FileRow.{FileRow}
use Rattle.ckpt_model.specs.Dataset.{Dataset, File as RankFile}
use Rattle.ckpt_model.specs.Machine.{Machine, Setup}
use Rattle.ckpt_model.specs.Questions.{is_kept}
use Rattle.site_stands.specs.Cells.{physical_nodes}
use Rattle.site_stands.specs.Described.{IsFileAt, Describes}
use Rattle.site_stands.specs.Members.{NoneSealed, IsHidden}
use Rattle.site_stands.specs.Site.{SiteStands}
use Rattle.site_stands.specs.Moves.{MovesDataset}
use Rattle.site_stands.specs.Gate.{Gate, GateIs, MemberIs, GatesHold}
use Rattle.site_stands.proofs.Keeping.Kept.{read_place, told_place, few_files}
use Rattle.site_stands.specs.MemberMoves.{IsNoWorse, KeepsMember, WritesBodyAt, SyncsAt, Rests}
use Rattle.commit_core.specs.Fill.{PartsRead, MemberReads, IsUnused, Fill, FillIs, FillHolds, FitsNames}
use Rattle.site_stands.proofs.Moving.Members.{same_no_worse, local_small, gates_still}
use Rattle.site_stands.proofs.Moving.Datasets.{free_step}

-- ## What gates that are shut are worth

pub shut_gate : (f : File) (gate : ℕ) → gate < 8 → HasShutGates f → GateIs f gate Gate.Shut
shut_gate f gate lt shut = λ o may. shut.shut o may gate lt

pub unused_hidden : (shape : Shape) (states : ℕ → DeviceState) (which : DataId) → IsUnused shape states which → (p node : ℕ) → p < physical_nodes shape → IsHidden shape ((states p).file (record_name which node)) which node
unused_hidden shape states which unused p node low o may reads opens = (unused p node low (read_place shape o which node reads)).shut o may 0 (omega arith) opens

pub unused_unsealed : (shape : Shape) (states : ℕ → DeviceState) (which : DataId) → IsUnused shape states which → NoneSealed shape states which
unused_unsealed shape states which unused p node low o may reads opens seals = unused_hidden shape states which unused p node low o may reads opens

-- a sync, done or refused, keeps them shut
pub shut_synced : (f g : File) → IsPartlySynced f g → HasShutGates f → HasShutGates g
shut_synced f g partly shut = record {
  shut = λ o may. shut.shut o (partly.outcomes o may);
  untouched = λ gate lt. not_touched gate (f.touched gate) refl (g.touched gate) refl (shut.untouched gate lt);
} where
  not_touched : (gate : ℕ) (a : Bool) → f.touched gate ≡ a → (b : Bool) → g.touched gate ≡ b → f.touched gate ≡ false → g.touched gate ≡ false
  not_touched gate a is_a true is_b not = absurd (let touched = partly.touched gate is_b in cc (touched, not))
  not_touched gate a is_a false is_b not = is_b

-- ## One member

-- files and shares are read by their names alone
pub parts_read : (shape : Shape) (old new : DeviceState) (d : Dataset) (node : ℕ) → ((part : Part) → IsPart part → (new.file (part_name d.which node part)).now ≡ (old.file (part_name d.which node part)).now)
    → ((local j : ℕ) (f : RankFile) → IsFileAt shape d node local j f → IsPart (FilePart local j)) → PartsRead shape old d node → PartsRead shape new d node
parts_read shape old new d node alike few reads = record {
  files = λ local j f at. alike (FilePart local j) (few local j f at) ∙ reads.files local j f at;
  shares = λ local lt coded. let share = reads.shares local lt coded in record { share = share.share; is = share.is; reads = alike (SharePart local) (local_small shape local lt) ∙ share.reads };
}

-- The node was synced after its record was written: the member stands, and its gates are shut.
pub member_filled : (shape : Shape) (disk : DeviceState) (d : Dataset) (node : ℕ) → Rests disk → HasShutGates (disk.file (record_name d.which node)) → MemberReads shape disk d node → MemberIs shape disk d node Gate.Shut Gate.Shut
member_filled shape disk d node rests shut reads = record {
  member = record {
    desc = reads.desc;
    rows = reads.rows;
    describes = reads.describes;
    small = reads.small;
    body = λ o may. subst (λ (x : Option (List ℕ)). HasBody x (member_body reads.desc node reads.rows)) (sym (rest_leaves (disk.file (record_name d.which node)) o (rests (record_name d.which node)) may)) reads.body;
    files = λ local j f at o may. rest_leaves (disk.file (part_name d.which node (FilePart local j))) o (rests (part_name d.which node (FilePart local j))) may ∙ reads.parts.files local j f at;
    shares = λ local lt coded. let share = reads.parts.shares local lt coded in record {
      share = share.share;
      is = share.is;
      stands = λ o may. rest_leaves (disk.file (part_name d.which node (SharePart local))) o (rests (part_name d.which node (SharePart local))) may ∙ share.reads;
    };
  };
  first = shut_gate (disk.file (record_name d.which node)) 0 (omega arith) shut;
  second = shut_gate (disk.file (record_name d.which node)) 1 (omega arith) shut;
}

-- ## The members of a dataset

-- the numbers of a dataset's names fit where records may tell of it
pub fits_names : (shape : Shape) (desc : Desc) (rows : List (List FileRow)) (d : Dataset) → Describes shape desc rows d → FitsNames shape d
fits_names shape desc rows d describes = record {
  places = λ node small. told_place shape desc rows d node describes small;
  files = λ node local j f at. (local_small shape local at.0, few_files shape desc rows d (node * shape.ranks + local) j f describes at.1);
}

-- nothing of a file changes but what a stop may leave, if it was written
abbrev pub SameFiles : (ℕ → DeviceState) → (ℕ → DeviceState) → ℕ → List ℕ → Type 0
SameFiles old new p q = (new p).file q ≡ (old p).file q

pub same_else : (which : DataId) (node place p : ℕ) (q : List ℕ) (old new : ℕ → DeviceState) → WritesBodyAt which node place old new → q ≢ record_name which node → SameFiles old new p q
same_else which node place p q old new writes apart = elim (cases_eq p place) [
  | inl here ↦ subst (λ (x : ℕ). (new x).file q ≡ (old x).file q) (sym here) (writes.others q apart)
  | inr away ↦ ap (λ (s : DeviceState). s.file q) (writes.elsewhere p away)
]

pub unused_written : (shape : Shape) (which : DataId) (node place : ℕ) (old new : ℕ → DeviceState) → IsPlace which node → WritesBodyAt which node place old new → IsUnused shape old which → IsUnused shape new which
unused_written shape which node place old new at writes unused p n low is_place = elim (cases_eq n node) [
  | inl same ↦ elim (cases_eq p place) [
    | inl here ↦ subst (λ (x : ℕ). HasShutGates ((new x).file (record_name which n))) (sym here) (subst (λ (x : ℕ). HasShutGates ((new place).file (record_name which x))) (sym same)
        (writes.shut (subst (λ (x : ℕ). HasShutGates ((old x).file (record_name which node))) here (subst (λ (x : ℕ). HasShutGates ((old p).file (record_name which x))) same (unused p n low is_place)))))
    | inr away ↦ subst (λ (s : DeviceState). HasShutGates (s.file (record_name which n))) (sym (writes.elsewhere p away)) (unused p n low is_place)
  ]
  | inr other ↦ subst (λ (f : File). HasShutGates f) (sym (same_else which node place p (record_name which n) old new writes (λ is. other (one_member which which n node (record_name which n) is_place at (inl refl) (inl is)).1))) (unused p n low is_place)
]

abbrev pub set_fill : (ℕ → Fill) → ℕ → Fill → ℕ → Fill
set_fill fills node fill = λ i. if i == node then fill else fills i

set_here : (fills : ℕ → Fill) (node : ℕ) (fill : Fill) → set_fill fills node fill node ≡ fill
set_here fills node fill = grind (arith, nat_tests)

set_other : (fills : ℕ → Fill) (node : ℕ) (fill : Fill) (i : ℕ) → i ≢ node → set_fill fills node fill i ≡ fills i
set_other fills node fill i other = grind (arith, nat_tests)

one_place : (places : List ℕ) (node a b : ℕ) → slice_get places node ≡ Some a → slice_get places node ≡ Some b → a ≡ b
one_place places node a b x y = cc (x, y)

-- files and shares of a member that is kept read as they did
pub parts_kept : (shape : Shape) (old new : DeviceState) (d : Dataset) (node : ℕ) → FitsNames shape d → IsPlace d.which node → KeepsMember d.which node old new → PartsRead shape old d node → PartsRead shape new d node
parts_kept shape old new d node fits is_place keeps reads =
    parts_read shape old new d node (λ part small. (keeps (part_name d.which node part) is_place (inr (part, small, refl))).now) (λ local j f at. fits.files node local j f at) reads

pub reads_kept : (shape : Shape) (old new : DeviceState) (d : Dataset) (node : ℕ) → FitsNames shape d → IsPlace d.which node → KeepsMember d.which node old new → MemberReads shape old d node → MemberReads shape new d node
reads_kept shape old new d node fits is_place keeps reads = record {
  desc = reads.desc;
  rows = reads.rows;
  describes = reads.describes;
  small = reads.small;
  body = subst (λ (o : Option (List ℕ)). HasBody o (member_body reads.desc node reads.rows)) (sym (keeps (record_name d.which node) is_place (inl refl)).now) reads.body;
  parts = parts_kept shape old new d node fits is_place keeps reads.parts;
}

pub fill_kept : (shape : Shape) (old new : DeviceState) (d : Dataset) (node : ℕ) → FitsNames shape d → IsPlace d.which node → KeepsMember d.which node old new → (fill : Fill) → FillIs shape old d node fill → FillIs shape new d node fill
fill_kept shape old new d node fits is_place keeps Fill.Parts is = parts_kept shape old new d node fits is_place keeps is
fill_kept shape old new d node fits is_place keeps Fill.Written is = reads_kept shape old new d node fits is_place keeps is
fill_kept shape old new d node fits is_place keeps Fill.Stable is = gates_still shape old new d node Gate.Shut Gate.Shut keeps is

-- a sync of one device, done or refused, leaves the names unused
pub unused_synced : (shape : Shape) (which : DataId) (place : ℕ) (old new : ℕ → DeviceState) → ((q : ℕ) → q ≢ place → new q ≡ old q) → ((q : List ℕ) → IsPartlySynced ((old place).file q) ((new place).file q)) → IsUnused shape old which → IsUnused shape new which
unused_synced shape which place old new elsewhere partly unused p n low is_place = elim (cases_eq p place) [
  | inl here ↦ subst (λ (x : ℕ). HasShutGates ((new x).file (record_name which n))) (sym here) (shut_synced ((old place).file (record_name which n)) ((new place).file (record_name which n)) (partly (record_name which n)) (subst (λ (x : ℕ). HasShutGates ((old x).file (record_name which n))) here (unused p n low is_place)))
  | inr away ↦ subst (λ (s : DeviceState). HasShutGates (s.file (record_name which n))) (sym (elsewhere p away)) (unused p n low is_place)
]

-- ## Moves of the dataset's record phase

module _ (shape : Shape) (d : Dataset) (fits : FitsNames shape d) (old new : ℕ → DeviceState) (places : List ℕ) (all : length places ≡ shape.nodes) (node place : ℕ) (home : slice_get places node ≡ Some place) where
  place_of : (i p : ℕ) → slice_get places i ≡ Some p → IsPlace d.which i
  place_of i p at = fits.places i (omega (arith, all, slice_get_within places i p at))

  -- one node comes on, the others' members stay
  fill_turn : (fills : ℕ → Fill) (fill : Fill) → IsUnused shape new d.which → ((i p : ℕ) → i ≢ node → p < physical_nodes shape → KeepsMember d.which i (old p) (new p)) → (place < physical_nodes shape → FillIs shape (old place) d node (fills node) → FillIs shape (new place) d node fill)
      → FillHolds shape old places d fills → FillHolds shape new places d (set_fill fills node fill)
  fill_turn fills fill unused beside step holds = record {
    unused = unused;
    members = λ i p at. elim (cases_eq i node) [
      | inl same ↦
          let here : p ≡ place = one_place places node p place (subst (λ (x : ℕ). slice_get places x ≡ Some p) same at) home in
          let was = holds.members node place home in
          subst (λ (x : ℕ). (p < physical_nodes shape) × FillIs shape (new p) d x (set_fill fills node fill x)) (sym same)
          (subst (λ (x : ℕ). (x < physical_nodes shape) × FillIs shape (new x) d node (set_fill fills node fill node)) (sym here)
          (subst (λ (f : Fill). (place < physical_nodes shape) × FillIs shape (new place) d node f) (sym (set_here fills node fill)) (was.0, step was.0 was.1)))
      | inr other ↦
          let was = holds.members i p at in
          subst (λ (f : Fill). (p < physical_nodes shape) × FillIs shape (new p) d i f) (sym (set_other fills node fill i other)) (was.0, fill_kept shape (old p) (new p) d i fits (place_of i p at) (beside i p other was.0) (fills i) was.1)
    ];
  }

  module _ (writes : WritesBodyAt d.which node place old new) where
    beside_body : (i p : ℕ) → i ≢ node → p < physical_nodes shape → KeepsMember d.which i (old p) (new p)
    beside_body i p other low q is_place is = same_no_worse ((old p).file q) ((new p).file q) (same_else d.which node place p q old new writes (λ same. other (one_member d.which d.which i node q is_place (place_of node place home) is (inl same)).1))

    own_parts : PartsRead shape (old place) d node → PartsRead shape (new place) d node
    own_parts reads = parts_read shape (old place) (new place) d node (λ part small. ap (λ (f : File). f.now) (writes.others (part_name d.which node part) (part_no_record d.which node part))) (λ local j f at. fits.files node local j f at) reads

    -- the record is written
    pub body_written : (fills : ℕ → Fill) → fills node ≡ Fill.Parts → (PartsRead shape (new place) d node → MemberReads shape (new place) d node) → FillHolds shape old places d fills → FillHolds shape new places d (set_fill fills node Fill.Written)
    body_written fills is has holds = fill_turn fills Fill.Written (unused_written shape d.which node place old new (place_of node place home) writes holds.unused) beside_body
        (λ low was. has (own_parts (subst (λ (f : Fill). FillIs shape (old place) d node f) is was))) holds

    -- or its write was refused
    pub body_refused : (fills : ℕ → Fill) → fills node ≡ Fill.Parts → FillHolds shape old places d fills → FillHolds shape new places d (set_fill fills node Fill.Parts)
    body_refused fills is holds = fill_turn fills Fill.Parts (unused_written shape d.which node place old new (place_of node place home) writes holds.unused) beside_body
        (λ low was. own_parts (subst (λ (f : Fill). FillIs shape (old place) d node f) is was)) holds

  -- The node is synced: what was written stands.
  pub node_synced : (fills : ℕ → Fill) → fills node ≡ Fill.Written → SyncsAt place old new → ((q : List ℕ) → IsPartlySynced ((old place).file q) ((new place).file q)) → Rests (new place)
      → FillHolds shape old places d fills → FillHolds shape new places d (set_fill fills node Fill.Stable)
  node_synced fills is syncs partly rests holds = fill_turn fills Fill.Stable (unused_synced shape d.which place old new syncs.elsewhere partly holds.unused) (λ i p other low q is_place named. synced_file p q)
      (λ low was. member_filled shape (new place) d node rests (unused_synced shape d.which place old new syncs.elsewhere partly holds.unused place node low (place_of node place home))
      (reads_kept shape (old place) (new place) d node fits (place_of node place home) (λ q is_place named. syncs.here q) (subst (λ (f : Fill). FillIs shape (old place) d node f) is was))) holds
    where
      synced_file : (p : ℕ) (q : List ℕ) → IsNoWorse ((old p).file q) ((new p).file q)
      synced_file p q = elim (cases_eq p place) [
        | inl here ↦ subst (λ (x : ℕ). IsNoWorse ((old x).file q) ((new x).file q)) (sym here) (syncs.here q)
        | inr away ↦ same_no_worse ((old p).file q) ((new p).file q) (ap (λ (s : DeviceState). s.file q) (syncs.elsewhere p away))
      ]

-- a sync that was refused, and a sync of any other device
pub fills_kept : (shape : Shape) (d : Dataset) → FitsNames shape d → (old new : ℕ → DeviceState) (places : List ℕ) → length places ≡ shape.nodes → (fills : ℕ → Fill) (place : ℕ) → SyncsAt place old new → ((q : List ℕ) → IsPartlySynced ((old place).file q) ((new place).file q))
    → FillHolds shape old places d fills → FillHolds shape new places d fills
fills_kept shape d fits old new places all fills place syncs partly holds = record {
  unused = unused_synced shape d.which place old new syncs.elsewhere partly holds.unused;
  members = λ i p at. let was = holds.members i p at in (was.0, fill_kept shape (old p) (new p) d i fits (fits.places i (omega (arith, all, slice_get_within places i p at))) (λ q is_place named. synced_file p q) (fills i) was.1);
}
  where
    synced_file : (p : ℕ) (q : List ℕ) → IsNoWorse ((old p).file q) ((new p).file q)
    synced_file p q = elim (cases_eq p place) [
      | inl here ↦ subst (λ (x : ℕ). IsNoWorse ((old x).file q) ((new x).file q)) (sym here) (syncs.here q)
      | inr away ↦ same_no_worse ((old p).file q) ((new p).file q) (ap (λ (s : DeviceState). s.file q) (syncs.elsewhere p away))
    ]

-- once each member is stable, the gates begin
pub all_filled : (shape : Shape) (states : ℕ → DeviceState) (places : List ℕ) (d : Dataset) (fills : ℕ → Fill) → ((node : ℕ) → node < length places → fills node ≡ Fill.Stable) → FillHolds shape states places d fills → GatesHold shape states places d (λ i. Gate.Shut) (λ i. Gate.Shut)
all_filled shape states places d fills stable holds = record {
  members = λ i p at. let was = holds.members i p at in (was.0, subst (λ (f : Fill). FillIs shape (states p) d i f) (stable i (slice_get_within places i p at)) was.1);
  elsewhere = λ p i low off. unused_hidden shape states d.which holds.unused p i low;
}

-- ## Safety

-- any write of the dataset's files or records before its first gate, done or refused, and any removal of what is unused
pub fill_step : (s : Setup) (old new : ℕ → DeviceState) (m : Machine) (which : DataId) → is_kept m which ≡ false → which.run ≤ m.run → MovesDataset s.shape which old new → IsUnused s.shape new which → SiteStands s old m → SiteStands s new m
fill_step s old new m which not_kept so_far moves unused = free_step s old new m which not_kept so_far moves (unused_unsealed s.shape new which unused)
