-- What a call on a member does to its device, whole: its answer, the state before and the state after.
use Rattle.std.specs.Prelude.{◌≡◌, ◌⊎◌, ◌<◌, ◌+◌, ◌↔◌, ℕ, Bool, true, false, List, [], length, get_or, All, AllPairs, Contains, ◌≢◌, map, Option, None, Some, IsSome, Result, Ok, Err, OnOk, OnErr, IfOk, Vec}
use Rattle.std.specs.declared.alloc.Global.{Global}
use Rattle.scr_base.specs.declared.shape.DataId.{DataId}
use Rattle.scr_base.specs.declared.shape.Shape.{Shape}
use Rattle.scr_base.specs.declared.change.Change.{Change}
use Rattle.scr_base.specs.declared.change.Change.TheVariants.{Remove}
use Rattle.scr_base.specs.Stages.{left, next_of, is_over}
use Rattle.node_device.specs.File.{IsRemoved}
use Rattle.node_device.specs.DeviceState.{DeviceState, ChangesOnly, IsUnchanged}
use Rattle.node_device.specs.Answers.{HasDeviceCause, NamesAnswers}
use Rattle.node_device.specs.Calls.{Reads, Writes}
use Rattle.node_device.specs.declared.device.DevError.{DevError}
use Rattle.node_device.specs.declared.device.DevError.TheVariants.{Failed, NoFile, Memory}
use Rattle.gated_record.specs.Record.{open_gate_byte}
use Rattle.gated_record.specs.Calls.{WritesBody, TurnsGate}
use Rattle.dataset_desc.specs.declared.desc.Desc.{Desc}
use Rattle.filemap.specs.declared.rows.FileRow.{FileRow}
use Rattle.member_store.specs.Names.{record_name, part_name, IsPart, IsNameOf}
use Rattle.member_store.specs.Members.{AreMembers, member_body}
use Rattle.member_store.specs.declared.member.Member.{Member}
use Rattle.member_store.specs.declared.part.Part.{Part}
use Rattle.member_store.specs.declared.gates.MemberGate.{MemberGate}
use Rattle.member_store.specs.declared.gates.MemberGate.TheVariants.{Whole, Sealed}

-- the members are listed
pub record Scans (shape : Shape) (result : Result (Vec Member Global) DevError) (old new : DeviceState) : Type 0 where
  pub answer : NamesAnswers result
  pub members : old.tells ≡ true → IfOk result (λ members. AreMembers shape old members.items)
  pub same : IsUnchanged old new
  pub cause : HasDeviceCause old new result

-- bytes are written at a place of a part
abbrev pub WritesPart : {T : Type 0} → DataId → ℕ → Part → ℕ → List ℕ → Result T DevError → DeviceState → DeviceState → Type 0
WritesPart which node part = Writes (part_name which node part)

-- `n` bytes of a part are read from a place on, into a buffer that holds `into` afterwards
abbrev pub ReadsPart : {T : Type 0} → DataId → ℕ → Part → ℕ → ℕ → List ℕ → Result T DevError → DeviceState → DeviceState → Type 0
ReadsPart which node part = Reads (part_name which node part)

-- the body of a record is written; where its gates are shut, they stay so
abbrev pub WritesMember : {T : Type 0} → DataId → ℕ → Desc → List (List FileRow) → Result T DevError → DeviceState → DeviceState → Type 0
WritesMember which node desc files = WritesBody (record_name which node) (member_body desc node files)

-- the number of a gate
abbrev pub gate_number : MemberGate → ℕ
gate_number Whole = 0
gate_number Sealed = 1

-- what is written at a gate that is opened or closed
abbrev pub gate_byte : Bool → ℕ
gate_byte true = open_gate_byte
gate_byte false = 0

-- a gate of a record is opened or closed
abbrev pub SetsGate : {T : Type 0} → DataId → ℕ → MemberGate → Bool → Result T DevError → DeviceState → DeviceState → Type 0
SetsGate which node gate up = TurnsGate (record_name which node) (gate_number gate) (gate_byte up)

-- the member's files that are there
abbrev pub IsFileOf : DataId → ℕ → DeviceState → List ℕ → Type 0
IsFileOf which node d name = IsNameOf which node name × IsSome (d.file name).len

-- none of the member's files is there
abbrev pub HasNoFile : DataId → ℕ → DeviceState → Type 0
HasNoFile which node d = (name : List ℕ) → IsNameOf which node name → (d.file name).len ≡ None

-- These are the member's files that are there, each once, its record the last.
pub record AreFilesOf (which : DataId) (node : ℕ) (d : DeviceState) (names : List (List ℕ)) : Type 0 where
  pub there : All (IsFileOf which node d) names
  pub every : (name : List ℕ) → IsFileOf which node d name → Contains names name
  pub distinct : AllPairs (λ name other. name ≢ other) names
  pub last : (k : ℕ) → k < length names → get_or names k [] ≡ record_name which node → k + 1 ≡ length names

-- A stage of this member's removal, whatever the device holds: it has made no change, or files of its names are left.
abbrev pub IsDropStageOf : DataId → ℕ → Option (List Change) → Type 0
IsDropStageOf which node None = Unit {0}
IsDropStageOf which node (Some changes) = (names : List (List ℕ)) × (changes ≡ map Remove names) × All (IsNameOf which node) names

-- A stage of this member's removal on this device: it has made no change, or knows the files that are left.
abbrev pub IsDropStage : DataId → ℕ → DeviceState → Option (List Change) → Type 0
IsDropStage which node d None = Unit {0}
IsDropStage which node d (Some changes) = (names : List (List ℕ)) × (changes ≡ map Remove names) × AreFilesOf which node d names

-- this file of the member is removed, and no other file is changed
pub record RemovesFile (which : DataId) (node : ℕ) (name : List ℕ) (old new : DeviceState) : Type 0 where
  pub there : IsFileOf which node old name
  pub removed : IsRemoved (old.file name) (new.file name)
  pub only : ChangesOnly name old new

-- one file of the member is removed; where none is there, nothing is changed
abbrev pub RemovesOne : DataId → ℕ → DeviceState → DeviceState → Type 0
RemovesOne which node old new = ((name : List ℕ) × RemovesFile which node name old new) ⊎ (HasNoFile which node old × IsUnchanged old new)

-- when each answer comes of a step of a removal: the file that comes next is there, or it isn't
abbrev pub DropAnswers : {T : Type 0} → Option (List Change) → DeviceState → Result T DevError → Type 0
DropAnswers stage d (Ok _) = (name : List ℕ) → next_of stage ≡ Some (Remove name) → IsSome (d.file name).len
DropAnswers stage d (Err Failed) = Unit {0}
DropAnswers stage d (Err NoFile) = (name : List ℕ) × (next_of stage ≡ Some (Remove name)) × ((d.file name).len ≡ None)
DropAnswers stage d (Err Memory) = Unit {0}
DropAnswers stage d (Err _) = ⊥

-- one file of the member is removed, or nothing is changed
abbrev pub RemovesAtMost : DataId → ℕ → DeviceState → DeviceState → Type 0
RemovesAtMost which node old new = ((name : List ℕ) × RemovesFile which node name old new) ⊎ IsUnchanged old new

-- One file of the member is removed. Where the stage knows the files that are left, its record stays while another one is
-- left.
pub record Drops (which : DataId) (node : ℕ) (result : Result Bool DevError) (before after : Option (List Change)) (old new : DeviceState) : Type 0 where
  pub answer : DropAnswers before old result
  pub exact : IsDropStage which node old before → NamesAnswers result
  pub over : IfOk result (λ over. over ≡ is_over after)
  pub none_left : IsDropStage which node old before → IfOk result (λ over. (over ≡ true) ↔ HasNoFile which node new)
  pub at_most : OnOk result (RemovesAtMost which node old new)
  pub removed : IsDropStage which node old before → OnOk result (RemovesOne which node old new)
  pub record_last : IsDropStage which node old before → (part : Part) → IsPart part → IsSome (new.file (part_name which node part)).len → (new.file (record_name which node)).len ≡ (old.file (record_name which node)).len
  pub fewer : IfOk result (λ over. over ≡ false → left after < left before)
  pub stage : IsDropStageOf which node after
  pub goes : IsDropStage which node old before → IsDropStage which node new after
  pub refused : OnErr result ((after ≡ before) × IsUnchanged old new)
  pub cause : HasDeviceCause old new result
