-- What the devices hold for the datasets in cache, dataset by dataset and member by member: all of it is said of what a stop may leave.
use Rattle.std.specs.Prelude.{◌≡◌, ◌<◌, ℕ, Bool, false, IsTrue, List, Some, slice_get}
use Rattle.scr_base.specs.Sets.{is_among}
use Rattle.scr_base.specs.declared.shape.DataId.{DataId}
use Rattle.scr_base.specs.declared.shape.Shape.{Shape}
use Rattle.node_device.specs.File.{File}
use Rattle.node_device.specs.DeviceState.{DeviceState}
use Rattle.gated_record.specs.Record.{IsOpen, KeepsBody}
use Rattle.gate_outcomes.specs.Leaves.{Leaves}
use Rattle.gate_outcomes.specs.Gates.{StaysOpen}
use Rattle.dataset_desc.specs.declared.desc.Desc.{Desc}
use Rattle.filemap.specs.declared.rows.FileRow.{FileRow}
use Rattle.member_store.specs.Names.{record_name, part_name}
use Rattle.member_store.specs.Members.{member_body}
use Rattle.member_store.specs.declared.part.Part.TheVariants.{File as FilePart, Share as SharePart}
use Rattle.ckpt_model.specs.Dataset.{Dataset, File as RankFile}
use Rattle.ckpt_model.specs.Machine.{Kept, MemberState}
use Rattle.ckpt_model.specs.Loss.{has_no_home}
use Rattle.site_stands.specs.Cells.{physical_nodes}
use Rattle.site_stands.specs.Described.{Describes, IsFileAt, is_single, IsShareAt}
use Rattle.site_stands.specs.View.{Reads}

-- no stop leaves a record that reads
abbrev pub IsBlank : Shape → File → DataId → ℕ → Type 0
IsBlank shape f which node = Leaves f (λ o. Reads shape o which node → ⊥)

-- no stop leaves a record that reads with `whole` open
abbrev pub IsHidden : Shape → File → DataId → ℕ → Type 0
IsHidden shape f which node = Leaves f (λ o. Reads shape o which node → IsOpen o 0 → ⊥)

-- no stop leaves a record that reads with `whole` and `sealed` open
abbrev pub IsUnsealed : Shape → File → DataId → ℕ → Type 0
IsUnsealed shape f which node = Leaves f (λ o. Reads shape o which node → IsOpen o 0 → IsOpen o 1 → ⊥)

-- a share is left so, and is the member's
pub record ShareStands (f : File) (d : Dataset) (node local : ℕ) : Type 0 where
  pub share : List ℕ
  pub is : IsShareAt d node local share
  pub stands : Leaves f (λ o. o ≡ Some share)

-- Body, files and shares of a member are left so by every stop; of its gates nothing is said.
pub record MemberStands (shape : Shape) (disk : DeviceState) (d : Dataset) (node : ℕ) : Type 0 where
  pub desc : Desc
  pub rows : List (List FileRow)
  pub describes : Describes shape desc rows d
  pub small : node < shape.nodes
  pub body : KeepsBody (disk.file (record_name d.which node)) (member_body desc node rows)
  pub files : (local j : ℕ) (f : RankFile) → IsFileAt shape d node local j f → Leaves (disk.file (part_name d.which node (FilePart local j))) (λ o. o ≡ Some f.bytes)
  pub shares : (local : ℕ) → local < shape.ranks → is_single d.scheme ≡ false → ShareStands (disk.file (part_name d.which node (SharePart local))) d node local

-- a member stands on a home, whole, and sealed unless the dataset is in doubt
pub record HomeHolds (shape : Shape) (states : ℕ → DeviceState) (d : Dataset) (doubt : Bool) (node : ℕ) (homes : List ℕ) : Type 0 where
  pub home : ℕ
  pub is_home : IsTrue (is_among home homes)
  pub place : home < physical_nodes shape
  pub member : MemberStands shape (states home) d node
  pub whole : StaysOpen ((states home).file (record_name d.which node)) 0
  pub sealed : doubt ≡ false → StaysOpen ((states home).file (record_name d.which node)) 1

-- where a stop leaves a record that reads with `whole` open, the node is a home, and the member stands there
pub record IsCopy (shape : Shape) (disk : DeviceState) (p : ℕ) (d : Dataset) (node : ℕ) (homes : List ℕ) : Type 0 where
  pub is_home : IsTrue (is_among p homes)
  pub member : MemberStands shape disk d node

-- so it is with each record of the member on the device
abbrev pub CopyHolds : Shape → DeviceState → ℕ → Dataset → ℕ → List ℕ → Type 0
CopyHolds shape disk p d node homes = Leaves (disk.file (record_name d.which node)) (λ o. Reads shape o d.which node → IsOpen o 0 → IsCopy shape disk p d node homes)

-- one member of a dataset in cache
pub record NodeStands (shape : Shape) (states : ℕ → DeviceState) (d : Dataset) (doubt : Bool) (node : ℕ) (st : MemberState) : Type 0 where
  pub present : has_no_home st ≡ false → st.unsure ≡ false → HomeHolds shape states d doubt node st.homes
  pub exact : (p : ℕ) → p < physical_nodes shape → CopyHolds shape (states p) p d node st.homes

-- a dataset in cache
abbrev pub KeptStands : Shape → (ℕ → DeviceState) → Kept → Type 0
KeptStands shape states k = (node : ℕ) (st : MemberState) → slice_get k.members node ≡ Some st → NodeStands shape states k.dataset k.doubt node st

-- no record of the dataset is left sealed
abbrev pub NoneSealed : Shape → (ℕ → DeviceState) → DataId → Type 0
NoneSealed shape states which = (p node : ℕ) → p < physical_nodes shape → IsUnsealed shape ((states p).file (record_name which node)) which node

-- no record of the dataset is left that reads
abbrev pub NoneReads : Shape → (ℕ → DeviceState) → DataId → Type 0
NoneReads shape states which = (p node : ℕ) → p < physical_nodes shape → IsBlank shape ((states p).file (record_name which node)) which node

-- no record is left on the node that reads
abbrev pub IsBare : Shape → DeviceState → Type 0
IsBare shape disk = (which : DataId) (node : ℕ) → IsBlank shape (disk.file (record_name which node)) which node
