-- What may be left of files: no more than before, of all files or of those of one dataset, one entry or one pair.
use Rattle.std.specs.Prelude.{◌≡◌, ◌<◌, ◌≤◌, ℕ, Some, List, slice_get}
use Rattle.scr_base.specs.declared.shape.DataId.{DataId}
use Rattle.scr_base.specs.declared.shape.Shape.{Shape}
use Rattle.node_device.specs.File.{File, MayLeave}
use Rattle.node_device.specs.DeviceState.{DeviceState}
use Rattle.gate_outcomes.specs.Leaves.{Leaves}
use Rattle.member_store.specs.Names.{IsPlace, IsNameOf}
use Rattle.gated_record.specs.PairStages.{IsCopyName}
use Rattle.ckpt_model.specs.Dataset.{Dataset, files_of, File as RankFile}
use Rattle.site_stands.specs.Cells.{physical_nodes, prefix_place}
use Rattle.site_stands.specs.Entry.{entry_name, flushed_name}

-- a stop may leave no more than before: so after a read, a sync, done or refused, and a change under another name
abbrev pub LeavesNoMore : File → File → Type 0
LeavesNoMore f g = Leaves g (λ o. MayLeave f o)

-- of no file a stop may leave more
abbrev pub KeepsAll : (ℕ → DeviceState) → (ℕ → DeviceState) → Type 0
KeepsAll old new = (p : ℕ) (q : List ℕ) → p ≤ prefix_place → LeavesNoMore ((old p).file q) ((new p).file q)

-- of no file of the dataset's members
abbrev pub KeepsDataset : Shape → DataId → (ℕ → DeviceState) → (ℕ → DeviceState) → Type 0
KeepsDataset shape which old new = (p node : ℕ) (q : List ℕ) → p < physical_nodes shape → IsPlace which node → IsNameOf which node q → LeavesNoMore ((old p).file q) ((new p).file q)

-- of no file on the prefix
abbrev pub KeepsPrefix : DeviceState → DeviceState → Type 0
KeepsPrefix old new = (q : List ℕ) → LeavesNoMore (old.file q) (new.file q)

-- of no file of an entry: its record, and those under its folder
pub record KeepsEntry (d : Dataset) (old new : DeviceState) : Type 0 where
  pub record_file : LeavesNoMore (old.file (entry_name d.which)) (new.file (entry_name d.which))
  pub flushed : (rank j : ℕ) (f : RankFile) → slice_get (files_of d rank) j ≡ Some f → LeavesNoMore (old.file (flushed_name d.name rank f.name)) (new.file (flushed_name d.name rank f.name))

-- of neither copy of a pair
abbrev pub KeepsPair : List ℕ → DeviceState → DeviceState → Type 0
KeepsPair stem old new = (q : List ℕ) → IsCopyName stem q → LeavesNoMore (old.file q) (new.file q)
