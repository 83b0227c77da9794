-- What is left to show where the files of one dataset, or of one entry, are changed.
use Rattle.std.specs.Prelude.{◌≡◌, ◌≢◌, ◌<◌, ℕ, false, Some, slice_get, codes}
use Rattle.scr_base.specs.declared.shape.DataId.{DataId}
use Rattle.scr_base.specs.declared.shape.Shape.{Shape}
use Rattle.node_device.specs.DeviceState.{DeviceState}
use Rattle.gate_outcomes.specs.Leaves.{Leaves}
use Rattle.ckpt_model.specs.Machine.{Machine, Setup, Kept, Entry}
use Rattle.ckpt_model.specs.Questions.{is_kept}
use Rattle.ckpt_model.specs.Stops.{pending_of}
use Rattle.site_stands.specs.Cells.{prefix_place}
use Rattle.site_stands.specs.Entry.{entry_name, ReadsEntry}
use Rattle.site_stands.specs.Members.{KeptStands, NoneSealed, NoneReads}
use Rattle.site_stands.specs.Prefix.{EntryHolds, IsIndexed}
use Rattle.site_stands.specs.Frame.{LeavesNoMore, KeepsDataset, KeepsPrefix, KeepsEntry, KeepsPair}

-- a move of one dataset on the nodes: of all other datasets, and on the prefix, no more is left than before
pub record MovesDataset (shape : Shape) (which : DataId) (old new : ℕ → DeviceState) : Type 0 where
  pub others : (other : DataId) → other ≢ which → KeepsDataset shape other old new
  pub prefix : KeepsPrefix (old prefix_place) (new prefix_place)

-- that dataset still stands if it is kept, is still unsealed if it isn't, and still unread if it is of a later run
pub record HoldsOne (s : Setup) (which : DataId) (old new : ℕ → DeviceState) (m : Machine) : Type 0 where
  pub kept : (i : ℕ) (k : Kept) → slice_get m.kept i ≡ Some k → k.dataset.which ≡ which → KeptStands s.shape old k → KeptStands s.shape new k
  pub others : is_kept m which ≡ false → NoneSealed s.shape old which → NoneSealed s.shape new which
  pub later : m.run < which.run → NoneReads s.shape old which → NoneReads s.shape new which

-- a move of one entry: of all other entries and records, and of the pairs, no more is left than before
pub record MovesEntry (which : DataId) (m : Machine) (old new : DeviceState) : Type 0 where
  pub entries : (i : ℕ) (e : Entry) → slice_get m.index i ≡ Some e → e.dataset.which ≢ which → KeepsEntry e.dataset old new
  pub records : (other : DataId) → other ≢ which → LeavesNoMore (old.file (entry_name other)) (new.file (entry_name other))
  pub run : KeepsPair (codes "run") old new
  pub halt : KeepsPair (codes "halt") old new
  pub mark : KeepsPair (codes "cur") old new

-- that entry still holds, its record is still an entry's where it is open, and still unread if it is of a later run
pub record EntryOne (s : Setup) (which : DataId) (old new : DeviceState) (m : Machine) : Type 0 where
  pub entries : (i : ℕ) (e : Entry) → slice_get m.index i ≡ Some e → e.dataset.which ≡ which → EntryHolds s.shape old (pending_of m.stage) e → EntryHolds s.shape new (pending_of m.stage) e
  pub others : IsIndexed old m which → IsIndexed new m which
  pub later : m.run < which.run → Leaves (old.file (entry_name which)) (λ o. ReadsEntry o which → ⊥) → Leaves (new.file (entry_name which)) (λ o. ReadsEntry o which → ⊥)
