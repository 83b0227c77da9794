-- What the prefix holds: the index, entry by entry, and each pair by itself.
use Rattle.std.specs.Prelude.{◌≡◌, ◌+◌, ℕ, Bool, false, IsTrue, List, Some, slice_get, codes, if◌then◌else◌}
use Rattle.scr_base.specs.declared.shape.DataId.{DataId}
use Rattle.scr_base.specs.declared.shape.Shape.{Shape}
use Rattle.node_device.specs.File.{File}
use Rattle.node_device.specs.DeviceState.{DeviceState}
use Rattle.gated_record.specs.Record.{IsOpen, KeepsBody}
use Rattle.gated_record.specs.PairStages.{PairLeaves}
use Rattle.gate_outcomes.specs.Leaves.{Leaves}
use Rattle.gate_outcomes.specs.Gates.{StaysOpen}
use Rattle.halt_file.specs.Stores.{halt_in}
use Rattle.dataset_desc.specs.declared.desc.Desc.{Desc}
use Rattle.filemap.specs.declared.rows.FileRow.{FileRow}
use Rattle.ckpt_model.specs.Dataset.{Dataset, files_of, File as RankFile}
use Rattle.ckpt_model.specs.Machine.{Machine, Entry, EntryMark, Pending}
use Rattle.ckpt_model.specs.Stops.{may_store, pending_of, halt_left, mark_left, is_drop_of}
use Rattle.ckpt_model.specs.Shows.{IsEntryAt}
use Rattle.site_stands.specs.Entry.{entry_name, flushed_name, entry_body, ReadsEntry, mark_in}
use Rattle.site_stands.specs.Described.{Describes}
use Rattle.site_stands.specs.View.{run_in}

-- no stop leaves this gate open
abbrev pub NeverOpen : File → ℕ → Type 0
NeverOpen f gate = Leaves f (λ o. IsOpen o gate → ⊥)

-- the record and the files under its folder are left so by every stop; of the gates nothing is said
pub record EntryStands (shape : Shape) (disk : DeviceState) (d : Dataset) : Type 0 where
  pub desc : Desc
  pub rows : List (List FileRow)
  pub describes : Describes shape desc rows d
  pub body : KeepsBody (disk.file (entry_name d.which)) (entry_body desc rows)
  pub flushed : (rank j : ℕ) (f : RankFile) → slice_get (files_of d rank) j ≡ Some f → Leaves (disk.file (flushed_name d.name rank f.name)) (λ o. o ≡ Some f.bytes)

-- gate `indexed` is open, but while the entry is being dropped
abbrev pub StaysListed : Pending → Entry → File → Type 0
StaysListed pending e f = is_drop_of pending e ≡ false → StaysOpen f 0

-- how far the gates are by the entry's mark: the gate that a stop decides is free
abbrev pub GatesFit : Pending → Entry → EntryMark → File → Type 0
GatesFit pending e EntryMark.Indexing f = NeverOpen f 1
GatesFit pending e EntryMark.Flushed f = StaysListed pending e f × NeverOpen f 1
GatesFit pending e EntryMark.Failing f = StaysOpen f 0
GatesFit pending e EntryMark.Failed f = StaysListed pending e f × StaysOpen f 1

-- an entry holds, and its gates are as its mark says
pub record EntryHolds (shape : Shape) (disk : DeviceState) (pending : Pending) (e : Entry) : Type 0 where
  pub stands : EntryStands shape disk e.dataset
  pub gates : GatesFit pending e e.mark (disk.file (entry_name e.dataset.which))

-- the entry of this identity
pub record OfEntry (m : Machine) (which : DataId) : Type 0 where
  pub entry : Entry
  pub at : IsEntryAt m entry
  pub same : entry.dataset.which ≡ which

-- where a stop leaves an index record that reads with `indexed` open, it's that of an entry
abbrev pub IsIndexed : DeviceState → Machine → DataId → Type 0
IsIndexed disk m which = Leaves (disk.file (entry_name which)) (λ o. ReadsEntry o which → IsOpen o 0 → OfEntry m which)

-- the run's number, or the next one where that may have been stored
pub record IsRunOf (m : Machine) (n : ℕ) : Type 0 where
  pub stored : Bool
  pub may : IsTrue (may_store m stored)
  pub is : n ≡ (if stored then m.run + 1 else m.run)

-- each stop leaves the pairs so: the run's number, and the halt conditions and the mark as they are or as a command that was cut short wants them
pub record PairsStand (disk : DeviceState) (m : Machine) : Type 0 where
  pub run : PairLeaves (codes "run") disk (λ v. IsRunOf m (run_in v))
  pub halt : PairLeaves (codes "halt") disk (λ v. (took : Bool) × (halt_in v ≡ halt_left (pending_of m.stage) took m.halt))
  pub mark : PairLeaves (codes "cur") disk (λ v. (took : Bool) × (mark_in v ≡ mark_left (pending_of m.stage) took m.mark))
