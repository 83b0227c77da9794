-- What a call on the index does to its device, whole: its answer, the state before and the state after.
use Rattle.std.specs.Prelude.{◌≡◌, ◌≢◌, ◌≤◌, ◌+◌, ℕ, true, List, length, Option, Result, Ok, Err, OnOk, OnErr, IfOk, IsSomeAnd, Vec}
use Rattle.std.specs.declared.alloc.Global.{Global}
use Rattle.scr_base.specs.declared.shape.DataId.{DataId}
use Rattle.node_device.specs.File.{Torn}
use Rattle.node_device.specs.DeviceState.{DeviceState, ChangesOnly, IsUnchanged, ReadsAlike, used_of}
use Rattle.node_device.specs.Answers.{Passes}
use Rattle.node_device.specs.declared.device.DevError.{DevError}
use Rattle.gated_record.specs.Record.{HasBody, HasShutGates, HasPlace, open_gate_byte}
use Rattle.gated_record.specs.Calls.{TurnsGate}
use Rattle.dataset_desc.specs.declared.desc.Desc.{Desc}
use Rattle.filemap.specs.declared.rows.FileRow.{FileRow}
use Rattle.prefix_index.specs.Names.{entry_name}
use Rattle.prefix_index.specs.Entries.{AreEntries, HasEntry, entry_body}
use Rattle.prefix_index.specs.Marks.{mark_among}
use Rattle.prefix_index.specs.Answers.{HasIndexCause, ReadingAnswers, IsDeviceAlone, index_result}
use Rattle.prefix_index.specs.declared.entry.Entry.{Entry}
use Rattle.prefix_index.specs.declared.error.IndexError.{IndexError}
use Rattle.prefix_index.specs.declared.error.IndexError.TheVariants.{NoEntry, NameTaken, Device, Full, Memory}

-- the entries are listed
pub record Lists (result : Result (Vec Entry Global) IndexError) (old new : DeviceState) : Type 0 where
  pub answer : ReadingAnswers result
  pub entries : old.tells ≡ true → IfOk result (λ entries. AreEntries old entries.items)
  pub same : IsUnchanged old new
  pub cause : HasIndexCause old new result

-- the mark among the entries of a device
pub record IsMark (d : DeviceState) (which : Option DataId) : Type 0 where
  pub entries : List Entry
  pub all : AreEntries d entries
  pub mark : which ≡ mark_among d entries

-- the mark is told
pub record TellsMark (result : Result (Option DataId) IndexError) (old new : DeviceState) : Type 0 where
  pub answer : ReadingAnswers result
  pub mark : old.tells ≡ true → IfOk result (IsMark old)
  pub same : IsUnchanged old new
  pub cause : HasIndexCause old new result

-- a gate of an index record is opened: what the device answers to the write of one byte, as the index tells it
pub record OpensGate {T : Type 0} (which : DataId) (gate : ℕ) (result : Result T IndexError) (old new : DeviceState) : Type 0 where
  pub told : Result T DevError
  pub is : result ≡ index_result new told
  pub turns : TurnsGate (entry_name which) gate open_gate_byte told old new
  pub alone : HasPlace (old.file (entry_name which)) gate → IsDeviceAlone result
  pub cause : HasIndexCause old new result

-- this entry of the index has the name
pub record TakesName (d : DeviceState) (name : List ℕ) (which : DataId) : Type 0 where
  pub entry : Entry
  pub there : HasEntry d entry
  pub named : entry.desc.name ≡ name
  pub is : entry.desc.which ≡ which

-- no entry of the index has the name
abbrev pub IsNameFree : DeviceState → List ℕ → Type 0
IsNameFree d name = (e : Entry) → HasEntry d e → e.desc.name ≢ name

-- the write of this body to the record of a dataset passes the capacity
abbrev pub BodyPasses : DeviceState → DataId → List ℕ → Type 0
BodyPasses d which body = Passes (d.file (entry_name which)) (used_of d) d.capacity 8 (8 + length body)

-- when each answer comes where a body is added
abbrev pub AddAnswers : {T : Type 0} → Desc → List (List FileRow) → DeviceState → DeviceState → Result T IndexError → Type 0
AddAnswers desc files old new (Ok _) = (old.tells ≡ true → IsNameFree old desc.name) × ¬ BodyPasses old desc.which (entry_body desc files)
AddAnswers desc files old new (Err (NameTaken which)) = old.tells ≡ true → TakesName old desc.name which
AddAnswers desc files old new (Err (Device count)) = Unit {0}
AddAnswers desc files old new (Err (Full used capacity)) = (old.tells ≡ true → IsNameFree old desc.name) × BodyPasses old desc.which (entry_body desc files) × (used ≡ used_of new) × (capacity ≡ new.capacity)
AddAnswers desc files old new (Err Memory) = Unit {0}
AddAnswers desc files old new (Err NoEntry) = ⊥

-- the body of an index record is written, where no entry has the dataset's name; where its gates are shut, they stay so
pub record AddsBody {T : Type 0} (desc : Desc) (files : List (List FileRow)) (result : Result T IndexError) (old new : DeviceState) : Type 0 where
  pub answer : AddAnswers desc files old new result
  pub whole : old.tells ≡ true → OnOk result (HasBody (new.file (entry_name desc.which)).now (entry_body desc files))
  pub len : OnOk result (IsSomeAnd (new.file (entry_name desc.which)).len (λ len. 16 + length (entry_body desc files) ≤ len))
  pub shut : HasShutGates (old.file (entry_name desc.which)) → HasShutGates (new.file (entry_name desc.which))
  pub torn : Torn 8 (8 + length (entry_body desc files)) (old.file (entry_name desc.which)) (new.file (entry_name desc.which))
  pub refused : OnErr result (ReadsAlike old new)
  pub only : ChangesOnly (entry_name desc.which) old new
  pub cause : HasIndexCause old new result
