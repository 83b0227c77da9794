-- What reads of a dataset's files give, and what they leave of the devices.
use Rattle.std.specs.Prelude.{◌≡◌, ℕ, true, List, map, length, Some, slice_get, Result, Ok, Err}
use Rattle.scr_base.specs.declared.shape.DataId.{DataId}
use Rattle.scr_base.specs.declared.shape.Shape.{Shape}
use Rattle.node_device.specs.DeviceState.{DeviceState}
use Rattle.node_device.specs.Rack.{OnlyAt}
use Rattle.filemap.specs.declared.rows.FileRow.{FileRow}
use Rattle.member_store.specs.Names.{part_name}
use Rattle.member_store.specs.declared.part.Part.TheVariants.{File as FilePart}
use Rattle.ckpt_model.specs.Dataset.{Dataset, File as RankFile}
use Rattle.site_stands.specs.Described.{Describes, IsFileAt}
use Rattle.site_calls.specs.Calls.{Tells, KeptAlike}
use Rattle.site_calls.specs.Causes.{IsFault}
use Rattle.site_calls.specs.declared.trouble.Trouble.{Trouble}
use Rattle.site_calls.specs.declared.trouble.Trouble.TheVariants as error
use Rattle.commit_core.specs.declared.set.CommitSet.{CommitSet}

-- a device failed: its count rose to this, and what reads give stays
pub record IsReadFault (old new : ℕ → DeviceState) (node count : ℕ) : Type 0 where
  pub place : ℕ
  pub kept : OnlyAt place KeptAlike old new
  pub fault : IsFault old new node count

-- reads change no device but by a fault, and none is refused for want of room
abbrev pub ReadsOnly : {T : Type 0} → (old new : ℕ → DeviceState) → Result T Trouble → Type 0
ReadsOnly old new (Ok _) = new ≡ old
ReadsOnly old new (Err error.Memory) = new ≡ old
ReadsOnly old new (Err (error.Fault node count)) = IsReadFault old new node count
ReadsOnly old new (Err (error.Full node used capacity)) = ⊥

-- the files of a node's rank of that local number read as these, each as long as its row says
pub record RankReads (disk : DeviceState) (which : DataId) (node local : ℕ) (rows : List FileRow) (files : List RankFile) : Type 0 where
  pub tells : disk.tells ≡ true
  pub lengths : map (λ (row : FileRow). row.len) rows ≡ map (λ (f : RankFile). length f.bytes) files
  pub reads : (j : ℕ) (f : RankFile) → slice_get files j ≡ Some f → (disk.file (part_name which node (FilePart local j))).now ≡ Some f.bytes

-- the files of all ranks of a dataset read as they are to be, on devices that tell their contents
pub record FilesRead (set : CommitSet) (shape : Shape) (d : Dataset) (states : ℕ → DeviceState) : Type 0 where
  pub describes : Describes shape set.desc set.files d
  pub tells : Tells states
  pub files : (node p local j : ℕ) (f : RankFile) → slice_get set.places node ≡ Some p → IsFileAt shape d node local j f → ((states p).file (part_name d.which node (FilePart local j))).now ≡ Some f.bytes
