-- What a stop may leave of the datasets of a run.
use Rattle.std.specs.Prelude.{◌≡◌, ◌≢◌, ◌<◌, ◌+◌, ℕ, Bool, true, false, IsTrue, nat_le, List, [], map, Option, Some, None, slice_get, codes, if◌then◌else◌}
use Rattle.scr_base.specs.Sets.{numbers_below}
use Rattle.scr_base.specs.declared.shape.DataId.{DataId}
use Rattle.node_device.specs.File.{IsAtRest}
use Rattle.node_device.specs.DeviceState.{DeviceState, IsOutcome}
use Rattle.gated_record.specs.Record.{IsOpen}
use Rattle.gated_record.specs.Pair.{pair_value}
use Rattle.gated_record.specs.PairStages.{PairLeaves}
use Rattle.halt_file.specs.Stores.{halt_in}
use Rattle.gate_outcomes.specs.Leaves.{Leaves}
use Rattle.gate_outcomes.specs.Gates.{StaysShut, StaysOpen, StaysWhole}
use Rattle.filemap.specs.Maps.{rows_of}
use Rattle.filemap.specs.declared.rows.FileRow.{FileRow}
use Rattle.member_store.specs.Names.{record_name, IsPlace}
use Rattle.member_store.specs.Members.{member_body}
use Rattle.ckpt_model.specs.Machine.{Machine, Setup, Pending}
use Rattle.ckpt_model.specs.Stops.{may_store, pending_of}
use Rattle.site_stands.specs.Entry.{entry_name, ReadsEntry, mark_in}
use Rattle.site_state.specs.declared.cache.Cached.{Cached}
use Rattle.site_state.specs.declared.cache.Manifest.{Manifest}
use Rattle.site_state.specs.declared.run_state.SaveStep.{SaveStep}
use Rattle.site_state.specs.declared.run_state.SaveStep.TheVariants as work
use Rattle.site_state.specs.Choosing.{AscendFrom}
use Rattle.site_state.specs.Shown.{kept_of, is_doubtful}
use Rattle.site_calls.specs.Numbers.{run_number}
use Rattle.site_core.specs.Stored.{cells_of, contents_in, place_of_rank, file_name, FileStands, IsOfSite}

-- ## A dataset that is being saved

-- a node's files may be pending: until its record is stable
abbrev pub is_filling_at : SaveStep → ℕ → ℕ → Bool
is_filling_at work.Record n i = nat_le n i
is_filling_at work.RecordSync n i = nat_le n i
is_filling_at _ n i = false

-- gates `sealed` are being opened
abbrev pub is_sealing_work : SaveStep → Bool
is_sealing_work work.Sealed = true
is_sealing_work work.SealedSync = true
is_sealing_work _ = false

-- While the dataset is open a stop leaves no record of it sealed; once gates `sealed` are to be opened it leaves each record whole. When
-- a node's record is stable, nothing but records is pending there; and no record is but at home.
pub record LeavesSaved (w : SaveStep) (n : ℕ) (places : List ℕ) (opened : Option Manifest) (m : Manifest) (states : ℕ → DeviceState) : Type 0 where
  pub elsewhere : (p node : ℕ) → p < 32 → IsPlace m.desc.which node → (slice_get places node ≡ Some p → ⊥) → IsAtRest ((states p).file (record_name m.desc.which node))
  pub parts : (node p : ℕ) (q : List ℕ) → slice_get places node ≡ Some p → is_filling_at w n node ≡ false → q ≢ record_name m.desc.which node → IsAtRest ((states p).file q)
  pub unsealed : opened ≡ Some m → (node p : ℕ) → slice_get places node ≡ Some p → StaysShut ((states p).file (record_name m.desc.which node)) 1
  pub whole : is_sealing_work w ≡ true → (node p : ℕ) → slice_get places node ≡ Some p → StaysWhole ((states p).file (record_name m.desc.which node)) (member_body m.desc node m.files)

-- no record of the dataset is left sealed
abbrev pub NoneSealed : DataId → (ℕ → DeviceState) → Type 0
NoneSealed which states = (p node : ℕ) → p < 32 → IsPlace which node → StaysShut ((states p).file (record_name which node)) 1

-- ## The datasets in cache

-- each node's record of the dataset is left whole, and each file as it reads now
pub record LeavesWhole (places : List ℕ) (ranks : ℕ) (states : ℕ → DeviceState) (m : Manifest) : Type 0 where
  pub records : (node p : ℕ) → slice_get places node ≡ Some p → StaysWhole ((states p).file (record_name m.desc.which node)) (member_body m.desc node m.files)
  pub files : (rank j : ℕ) (row : FileRow) → slice_get (rows_of m.files rank) j ≡ Some row
      → Leaves ((states (place_of_rank places ranks rank)).file (file_name m.desc.which ranks rank j)) (λ o. FileStands o row × (o ≡ cells_of states (place_of_rank places ranks rank) (file_name m.desc.which ranks rank j)))

-- it is none of these
abbrev pub IsNoneOf : List Cached → DataId → Type 0
IsNoneOf sets which = (i : ℕ) (x : Cached) → slice_get sets i ≡ Some x → x.manifest.desc.which ≡ which → ⊥

-- Whatever a stop leaves, each of these datasets is whole, and sealed unless it is in doubt; no record of one is anywhere but at home; and
-- of no other dataset a record is sealed.
pub record LeavesCache (places : List ℕ) (ranks : ℕ) (states : ℕ → DeviceState) (sets : List Cached) : Type 0 where
  pub whole : (i : ℕ) (x : Cached) → slice_get sets i ≡ Some x → LeavesWhole places ranks states x.manifest
  pub sealed : (i : ℕ) (x : Cached) → slice_get sets i ≡ Some x → is_doubtful x.mark ≡ false → (node p : ℕ) → slice_get places node ≡ Some p → StaysOpen ((states p).file (record_name x.manifest.desc.which node)) 1
  pub away : (i : ℕ) (x : Cached) → slice_get sets i ≡ Some x → (p node : ℕ) → p < 32 → IsPlace x.manifest.desc.which node → (slice_get places node ≡ Some p → ⊥) → Leaves ((states p).file (record_name x.manifest.desc.which node)) (λ o. o ≡ None)
  pub others : (p : ℕ) (which : DataId) (node : ℕ) → p < 32 → IsPlace which node → IsNoneOf sets which → Leaves ((states p).file (record_name which node)) (λ o. IsOpen o 1 → ⊥)

-- the datasets that the machine keeps are left so
pub record LeavesKept (s : Setup) (places : List ℕ) (states : ℕ → DeviceState) (m : Machine) : Type 0 where
  pub sets : List Cached
  pub kept : m.kept ≡ map (kept_of s (contents_in (cells_of states) places s.shape.ranks) places) sets
  pub places_are : places ≡ numbers_below s.shape.nodes
  pub of_site : (i : ℕ) (x : Cached) → slice_get sets i ≡ Some x → IsOfSite s.shape m.run x.manifest
  pub rise : AscendFrom 1 sets
  pub index : m.index ≡ []
  pub cache : LeavesCache places s.shape.ranks states sets

-- ## The prefix

-- what is left of the prefix tells the run's number, or the next one where that may have been stored, and the halt conditions
pub record PrefixLeft (m : Machine) (left : List ℕ → Option (List ℕ)) : Type 0 where
  pub stored : Bool
  pub may : IsTrue (may_store m stored)
  pub run : run_number (pair_value (codes "run") left) ≡ (if stored then m.run + 1 else m.run)
  pub halt : halt_in (pair_value (codes "halt") left) ≡ m.halt

-- no mark, and no command was cut short
pub record IsPlain (m : Machine) : Type 0 where
  pub mark : m.mark ≡ None
  pub pending : pending_of m.stage ≡ Pending.Nothing

-- whatever a stop leaves of the prefix, no index record reads and no mark is told
pub record LeavesUnindexed (disk : DeviceState) : Type 0 where
  pub entries : (which : DataId) → Leaves (disk.file (entry_name which)) (λ o. ReadsEntry o which → ⊥)
  pub unmarked : PairLeaves (codes "cur") disk (λ v. mark_in v ≡ None)

-- no record of a later run is left
abbrev pub NoLater : (ℕ → DeviceState) → ℕ → Type 0
NoLater states run = (p : ℕ) (which : DataId) (node : ℕ) → p < 32 → IsPlace which node → run < which.run → Leaves ((states p).file (record_name which node)) (λ o. o ≡ None)

-- whatever a stop leaves of the prefix tells that
abbrev pub LeavesPrefix : DeviceState → Machine → Type 0
LeavesPrefix prefix m = (left : List ℕ → Option (List ℕ)) → IsOutcome prefix left → PrefixLeft m left
