-- One member of a dataset stays as it is said to be, device by device.
use Rattle.std.proofs.Common.{◌≡◌, ◌≢◌, ◌<◌, ◌≤◌, ◌+◌, ◌*◌, ◌^◌, inl, inr, ℕ, Bool, false, List, [], length, map, Option, Some, None, refl, sym, ◌∙◌, ap, subst, arith}
use Rattle.std.specs.Prelude.{IsTrue, slice_get, option_map, unwrap_or, All}
use Rattle.std.proofs.lemmas.Bool.{cases_eq}
use Rattle.std.proofs.lemmas.Bool.Decides.{nat_tests}
use Rattle.std.proofs.lemmas.Option.{slice_get_within, slice_get-map}
use Rattle.scr_base.specs.declared.shape.DataId.{DataId}
use Rattle.scr_base.specs.declared.shape.Shape.{Shape}
use Rattle.scr_base.specs.Sets.{is_among}
use Rattle.node_device.specs.File.{File, IsAtRest}
use Rattle.node_device.specs.DeviceState.{DeviceState}
use Rattle.node_device.specs.Outcomes.{rest_leaves}
use Rattle.gated_record.specs.Record.{IsOpen}
use Rattle.dataset_desc.specs.declared.desc.Desc.{Desc}
use Rattle.filemap.specs.Rows.{IsRows}
use Rattle.filemap.specs.declared.rows.FileRow.{FileRow}
use Rattle.member_store.specs.Names.{record_name, part_name, IsPlace, IsPart}
use Rattle.member_store.specs.Members.{member_body}
use Rattle.member_store.proofs.Distinct.{one_member}
use Rattle.member_store.proofs.PartNames.{part_no_record}
use Rattle.member_store.specs.declared.part.Part.{Part}
use Rattle.member_store.specs.declared.part.Part.TheVariants.{File as FilePart, Share as SharePart}
use Rattle.ckpt_model.specs.Dataset.{Dataset, files_of, File as RankFile}
use Rattle.ckpt_model.specs.Machine.{MemberState}
use Rattle.ckpt_model.specs.Loss.{has_no_home}
use Rattle.ckpt_model.proofs.ShowsLemmas.{mapped_at}
use Rattle.site_stands.specs.Described.{Describes}
use Rattle.site_stands.specs.Members.{MemberStands, HomeHolds, CopyHolds, NodeStands, IsHidden, IsUnsealed}
use Rattle.site_stands.specs.Frame.{LeavesNoMore}
use Rattle.site_stands.specs.Look.{IsFixed}
use Rattle.site_stands.specs.Gate.{Gate, GateIs, synced, MemberIs}
use Rattle.site_stands.proofs.Keeping.Kept.{same_file, read_place, told_place, few_files, few_ranks}
use Rattle.site_stands.proofs.Turning.Gates.{gate_synced}
use Rattle.site_stands.specs.MemberMoves.{IsNoWorse, KeepsMember, ElseKept, StaysPut, WritesGate, WritesAt, SyncsAt}

-- ## Files

pub same_no_worse : (f g : File) → g ≡ f → IsNoWorse f g
same_no_worse f g same = record { outcomes = same_file f g same; now = ap (λ (x : File). x.now) same }

pub gate_no_worse : (f g : File) (k : ℕ) (t : Gate) → IsNoWorse f g → GateIs f k t → GateIs g k t
gate_no_worse f g k Gate.Shut no_worse is = λ o may. is o (no_worse.outcomes o may)
gate_no_worse f g k Gate.Loose no_worse is = tt
gate_no_worse f g k Gate.Turning no_worse is = subst (λ (o : Option (List ℕ)). IsOpen o k) (sym no_worse.now) is
gate_no_worse f g k Gate.Closing no_worse is = subst (λ (o : Option (List ℕ)). IsOpen o k → ⊥) (sym no_worse.now) is
gate_no_worse f g k Gate.Open no_worse is = λ o may. is o (no_worse.outcomes o may)

pub fixed_kept : (f g : File) → IsNoWorse f g → IsFixed f → IsFixed g
fixed_kept f g no_worse fixed = λ o may. fixed o (no_worse.outcomes o may) ∙ sym no_worse.now

pub fixed_open : (f : File) (gate : ℕ) → IsFixed f → IsOpen f.now gate → GateIs f gate Gate.Open
fixed_open f gate fixed opens = λ o may. subst (λ (x : Option (List ℕ)). IsOpen x gate) (sym (fixed o may)) opens

pub fixed_shut : (f : File) (gate : ℕ) → IsFixed f → (IsOpen f.now gate → ⊥) → GateIs f gate Gate.Shut
fixed_shut f gate fixed shut = λ o may opens. shut (subst (λ (x : Option (List ℕ)). IsOpen x gate) (fixed o may) opens)

-- a file that is at rest is left as it reads
pub rest_fixed : (f : File) → IsAtRest f → IsFixed f
rest_fixed f rest = λ o may. rest_leaves f o rest may

-- ## Numbers

pub local_small : (shape : Shape) (local : ℕ) → local < shape.ranks → local < 2 ^ 8
local_small shape local lt = omega (arith, lt, few_ranks shape)

-- ## A member

-- a member stands by its body and its parts alone: whoever keeps these keeps it
module _ (shape : Shape) (old new : DeviceState) (d : Dataset) (node : ℕ) where
  pub parts_still : (is : MemberStands shape old d node) → ((body : List ℕ) → Rattle.gated_record.specs.Record.KeepsBody (old.file (record_name d.which node)) body → Rattle.gated_record.specs.Record.KeepsBody (new.file (record_name d.which node)) body)
      → ((part : Part) → IsPart part → LeavesNoMore (old.file (part_name d.which node part)) (new.file (part_name d.which node part))) → MemberStands shape new d node
  parts_still is body parts = record {
    desc = is.desc;
    rows = is.rows;
    describes = is.describes;
    small = is.small;
    body = body (member_body is.desc node is.rows) is.body;
    files = λ local j f at o may. is.files local j f at o (parts (FilePart local j) (local_small shape local at.0, few_files shape is.desc is.rows d (node * shape.ranks + local) j f is.describes at.1) o may);
    shares = λ local lt coded. let share = is.shares local lt coded in record {
      share = share.share;
      is = share.is;
      stands = λ o may. share.stands o (parts (SharePart local) (local_small shape local lt) o may);
    };
  }

  pub member_still : KeepsMember d.which node old new → MemberStands shape old d node → MemberStands shape new d node
  member_still keeps is = let place = told_place shape is.desc is.rows d node is.describes is.small in
      parts_still is (λ body has o may. has o ((keeps (record_name d.which node) place (inl refl)).outcomes o may)) (λ part small. (keeps (part_name d.which node part) place (inr (part, small, refl))).outcomes)

  pub member_written : (gate : ℕ) → WritesGate d.which node gate old new → MemberStands shape old d node → MemberStands shape new d node
  member_written gate writes is = parts_still is writes.body (λ part small. same_file (old.file (part_name d.which node part)) (new.file (part_name d.which node part)) (writes.others (part_name d.which node part) (part_no_record d.which node part)))

  -- with its gates
  pub gates_still : (whole sealed : Gate) → KeepsMember d.which node old new → MemberIs shape old d node whole sealed → MemberIs shape new d node whole sealed
  gates_still whole sealed keeps is =
      let no_worse = keeps (record_name d.which node) (told_place shape is.member.desc is.member.rows d node is.member.describes is.member.small) (inl refl) in
      record {
        member = member_still keeps is.member;
        first = gate_no_worse (old.file (record_name d.which node)) (new.file (record_name d.which node)) 0 whole no_worse is.first;
        second = gate_no_worse (old.file (record_name d.which node)) (new.file (record_name d.which node)) 1 sealed no_worse is.second;
      }

  -- its device was synced
  pub gates_synced : (whole sealed : Gate) → KeepsMember d.which node old new → IsAtRest (new.file (record_name d.which node)) → MemberIs shape old d node whole sealed → MemberIs shape new d node (synced whole) (synced sealed)
  gates_synced whole sealed keeps rest is =
      let no_worse = keeps (record_name d.which node) (told_place shape is.member.desc is.member.rows d node is.member.describes is.member.small) (inl refl) in
      record {
        member = member_still keeps is.member;
        first = gate_synced (old.file (record_name d.which node)) (new.file (record_name d.which node)) 0 whole no_worse.outcomes no_worse.now rest is.first;
        second = gate_synced (old.file (record_name d.which node)) (new.file (record_name d.which node)) 1 sealed no_worse.outcomes no_worse.now rest is.second;
      }

  -- one of its gates was written
  pub first_written : (whole sealed after : Gate) → WritesGate d.which node 0 old new → GateIs (new.file (record_name d.which node)) 0 after → MemberIs shape old d node whole sealed → MemberIs shape new d node after sealed
  first_written whole sealed after writes turned is = record { member = member_written 0 writes is.member; first = turned; second = writes.gates 1 sealed (λ e. absurd (omega (arith, e))) is.second }

  pub second_written : (whole sealed after : Gate) → WritesGate d.which node 1 old new → GateIs (new.file (record_name d.which node)) 1 after → MemberIs shape old d node whole sealed → MemberIs shape new d node whole after
  second_written whole sealed after writes turned is = record { member = member_written 1 writes is.member; first = writes.gates 0 whole (λ e. absurd (omega (arith, e))) is.first; second = turned }

-- ## What no stop leaves to read

pub hidden_of_shut : (shape : Shape) (f : File) (which : DataId) (node : ℕ) → GateIs f 0 Gate.Shut → IsHidden shape f which node
hidden_of_shut shape f which node shut = λ o may reads opens. shut o may opens

pub unsealed_of_hidden : (shape : Shape) (f : File) (which : DataId) (node : ℕ) → IsHidden shape f which node → IsUnsealed shape f which node
unsealed_of_hidden shape f which node hidden = λ o may reads opens seals. hidden o may reads opens

pub unsealed_of_shut : (shape : Shape) (f : File) (which : DataId) (node : ℕ) → GateIs f 1 Gate.Shut → IsUnsealed shape f which node
unsealed_of_shut shape f which node shut = λ o may reads opens seals. shut o may seals

module _ (shape : Shape) (old new : DeviceState) (which : DataId) (node : ℕ) (keeps : KeepsMember which node old new) where
  pub hidden_still : IsHidden shape (old.file (record_name which node)) which node → IsHidden shape (new.file (record_name which node)) which node
  hidden_still hidden = λ o may reads opens. hidden o ((keeps (record_name which node) (read_place shape o which node reads) (inl refl)).outcomes o may) reads opens

  pub unsealed_still : IsUnsealed shape (old.file (record_name which node)) which node → IsUnsealed shape (new.file (record_name which node)) which node
  unsealed_still unsealed = λ o may reads opens seals. unsealed o ((keeps (record_name which node) (read_place shape o which node reads) (inl refl)).outcomes o may) reads opens seals

-- ## One node of a dataset

pub hidden_copy : (shape : Shape) (disk : DeviceState) (p : ℕ) (d : Dataset) (node : ℕ) (homes : List ℕ) → IsHidden shape (disk.file (record_name d.which node)) d.which node → CopyHolds shape disk p d node homes
hidden_copy shape disk p d node homes hidden = λ o may reads opens. absurd (hidden o may reads opens)

pub member_copy : (shape : Shape) (disk : DeviceState) (p : ℕ) (d : Dataset) (node : ℕ) (homes : List ℕ) → IsTrue (is_among p homes) → MemberStands shape disk d node → CopyHolds shape disk p d node homes
member_copy shape disk p d node homes home member = λ o may reads opens. record { is_home = home; member = member }

pub copy_still : (shape : Shape) (old new : DeviceState) (p : ℕ) (d : Dataset) (node : ℕ) (homes : List ℕ) → KeepsMember d.which node old new → CopyHolds shape old p d node homes → CopyHolds shape new p d node homes
copy_still shape old new p d node homes keeps holds = λ o may reads opens.
    let copy = holds o ((keeps (record_name d.which node) (read_place shape o d.which node reads) (inl refl)).outcomes o may) reads opens in
    record { is_home = copy.is_home; member = member_still shape old new d node keeps copy.member }

abbrev pub home_still : (shape : Shape) (old new : ℕ → DeviceState) (d : Dataset) (doubt : Bool) (node : ℕ) (homes : List ℕ) → (h : HomeHolds shape old d doubt node homes) → KeepsMember d.which node (old h.home) (new h.home) → HomeHolds shape new d doubt node homes
home_still shape old new d doubt node homes h keeps = record {
  home = h.home;
  is_home = h.is_home;
  place = h.place;
  member = member_still shape (old h.home) (new h.home) d node keeps h.member;
  whole = λ o may. h.whole o ((keeps (record_name d.which node) (told_place shape h.member.desc h.member.rows d node h.member.describes h.member.small) (inl refl)).outcomes o may);
  sealed = λ certain o may. h.sealed certain o ((keeps (record_name d.which node) (told_place shape h.member.desc h.member.rows d node h.member.describes h.member.small) (inl refl)).outcomes o may);
}

module _ (shape : Shape) (old new : ℕ → DeviceState) (d : Dataset) (doubt : Bool) (node : ℕ) (st : MemberState) where
  -- A change of the member's files on one physical_nodes node: what reads there, and where the member is sure to stand, are left to show.
  pub node_move : (p : ℕ) → ElseKept shape d.which node p old new → CopyHolds shape (new p) p d node st.homes → (has_no_home st ≡ false → st.unsure ≡ false → HomeHolds shape new d doubt node st.homes)
      → NodeStands shape old d doubt node st → NodeStands shape new d doubt node st
  node_move p keeps here present stands = record {
    present = present;
    exact = λ q lt. elim (cases_eq q p) [
      | inl same ↦ subst (λ (x : ℕ). CopyHolds shape (new x) x d node st.homes) (sym same) here
      | inr other ↦ copy_still shape (old q) (new q) q d node st.homes (keeps q lt other) (stands.exact q lt)
    ];
  }

  pub node_still : StaysPut shape d.which node old new → NodeStands shape old d doubt node st → NodeStands shape new d doubt node st
  node_still keeps stands = record {
    present = λ home sure. let h = stands.present home sure in home_still shape old new d doubt node st.homes h (keeps h.home h.place);
    exact = λ q lt. copy_still shape (old q) (new q) q d node st.homes (keeps q lt) (stands.exact q lt);
  }

-- a gate write is a change on one physical_nodes node
pub writes_else : (shape : Shape) (which : DataId) (node gate p : ℕ) (old new : ℕ → DeviceState) → WritesAt which node gate p old new → ElseKept shape which node p old new
writes_else shape which node gate p old new writes q lt other name place is = same_no_worse ((old q).file name) ((new q).file name) (ap (λ (d : DeviceState). d.file name) (writes.elsewhere q other))

-- and leaves every other member
pub writes_others : (shape : Shape) (which : DataId) (node gate p other : ℕ) (old new : ℕ → DeviceState) → IsPlace which node → other ≢ node → WritesAt which node gate p old new → StaysPut shape which other old new
writes_others shape which node gate p other old new at differs writes q lt name place is = elim (cases_eq q p) [
  | inl here ↦ subst (λ (x : ℕ). IsNoWorse ((old x).file name) ((new x).file name)) (sym here) (same_no_worse ((old p).file name) ((new p).file name) (writes.here.others name (λ same. differs (one_member which which other node name place at is (inl same)).1)))
  | inr away ↦ same_no_worse ((old q).file name) ((new q).file name) (ap (λ (d : DeviceState). d.file name) (writes.elsewhere q away))
]

-- a sync, done or refused, leaves every member
pub syncs_still : (shape : Shape) (which : DataId) (node p : ℕ) (old new : ℕ → DeviceState) → SyncsAt p old new → StaysPut shape which node old new
syncs_still shape which node p old new syncs q lt name place is = elim (cases_eq q p) [
  | inl here ↦ subst (λ (x : ℕ). IsNoWorse ((old x).file name) ((new x).file name)) (sym here) (syncs.here name)
  | inr away ↦ same_no_worse ((old q).file name) ((new q).file name) (ap (λ (d : DeviceState). d.file name) (syncs.elsewhere q away))
]
