-- A dataset whose files, shares and records are being written, in its places, before any gate is open.
use Rattle.std.specs.Prelude.{◌≡◌, ◌<◌, ℕ, false, List, Some, slice_get}
use Rattle.scr_base.specs.declared.shape.DataId.{DataId}
use Rattle.scr_base.specs.declared.shape.Shape.{Shape}
use Rattle.node_device.specs.File.{File}
use Rattle.node_device.specs.DeviceState.{DeviceState}
use Rattle.gated_record.specs.Record.{HasBody, HasShutGates}
use Rattle.dataset_desc.specs.declared.desc.Desc.{Desc}
use Rattle.filemap.specs.declared.rows.FileRow.{FileRow}
use Rattle.member_store.specs.Names.{record_name, part_name, IsPlace, IsPart}
use Rattle.member_store.specs.Members.{member_body}
use Rattle.member_store.specs.declared.part.Part.TheVariants.{File as FilePart, Share as SharePart}
use Rattle.ckpt_model.specs.Dataset.{Dataset, File as RankFile}
use Rattle.site_stands.specs.Cells.{physical_nodes}
use Rattle.site_stands.specs.Described.{Describes, IsFileAt, is_single, IsShareAt}
use Rattle.site_stands.specs.Gate.{Gate, MemberIs}

-- a read gives the member's share
pub record ShareReads (f : File) (d : Dataset) (node local : ℕ) : Type 0 where
  pub share : List ℕ
  pub is : IsShareAt d node local share
  pub reads : f.now ≡ Some share

-- files and shares of a member read as they are to be
pub record PartsRead (shape : Shape) (disk : DeviceState) (d : Dataset) (node : ℕ) : Type 0 where
  pub files : (local j : ℕ) (f : RankFile) → IsFileAt shape d node local j f → (disk.file (part_name d.which node (FilePart local j))).now ≡ Some f.bytes
  pub shares : (local : ℕ) → local < shape.ranks → is_single d.scheme ≡ false → ShareReads (disk.file (part_name d.which node (SharePart local))) d node local

-- and so does its record
pub record MemberReads (shape : Shape) (disk : DeviceState) (d : Dataset) (node : ℕ) : Type 0 where
  pub desc : Desc
  pub rows : List (List FileRow)
  pub describes : Describes shape desc rows d
  pub small : node < shape.nodes
  pub body : HasBody (disk.file (record_name d.which node)).now (member_body desc node rows)
  pub parts : PartsRead shape disk d node

-- No stop leaves an open gate under a record's name of the dataset, and none was written: so where no such name was used, and where all
-- that stood under them was shut, removed and synced.
abbrev pub IsUnused : Shape → (ℕ → DeviceState) → DataId → Type 0
IsUnused shape states which = (p node : ℕ) → p < physical_nodes shape → IsPlace which node → HasShutGates ((states p).file (record_name which node))

pub data Fill : Type 0 where
  -- files and shares read as they are to be
  Parts : Fill
  -- the record does too
  Written : Fill
  -- and the node was synced
  Stable : Fill

abbrev pub FillIs : Shape → DeviceState → Dataset → ℕ → Fill → Type 0
FillIs shape disk d node Fill.Parts = PartsRead shape disk d node
FillIs shape disk d node Fill.Written = MemberReads shape disk d node
FillIs shape disk d node Fill.Stable = MemberIs shape disk d node Gate.Shut Gate.Shut

-- each member of a dataset that is being saved, in its place: in any order of nodes
pub record FillHolds (shape : Shape) (states : ℕ → DeviceState) (places : List ℕ) (d : Dataset) (fills : ℕ → Fill) : Type 0 where
  pub unused : IsUnused shape states d.which
  pub members : (node p : ℕ) → slice_get places node ≡ Some p → (p < physical_nodes shape) × FillIs shape (states p) d node (fills node)

-- the numbers of a dataset's names fit
pub record FitsNames (shape : Shape) (d : Dataset) : Type 0 where
  pub places : (node : ℕ) → node < shape.nodes → IsPlace d.which node
  pub files : (node local j : ℕ) (f : RankFile) → IsFileAt shape d node local j f → IsPart (FilePart local j)
