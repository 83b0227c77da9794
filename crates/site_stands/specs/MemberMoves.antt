-- What a call does to the files of one member of a dataset, and how far it leaves other members as they were.
use Rattle.std.specs.Prelude.{◌≡◌, ◌≢◌, ◌⊎◌, ◌<◌, ℕ, List, set}
use Rattle.std.specs.Option.{option_map}
use Rattle.scr_base.specs.declared.shape.DataId.{DataId}
use Rattle.scr_base.specs.declared.shape.Shape.{Shape}
use Rattle.node_device.specs.File.{File, IsAtRest}
use Rattle.node_device.specs.DeviceState.{DeviceState}
use Rattle.gated_record.specs.Record.{KeepsBody, HasShutGates}
use Rattle.member_store.specs.Names.{record_name, part_name, IsPlace, IsNameOf}
use Rattle.member_store.specs.declared.part.Part.{Part}
use Rattle.site_stands.specs.Cells.{physical_nodes}
use Rattle.site_stands.specs.Frame.{LeavesNoMore}
use Rattle.site_stands.specs.Gate.{Gate, GateIs}

-- A stop may leave no more, and a read gives the same: so after a read, a sync, done or refused, and a change under another name.
pub record IsNoWorse (f g : File) : Type 0 where
  pub outcomes : LeavesNoMore f g
  pub now : g.now ≡ f.now

-- so under each name of one member on one device
abbrev pub KeepsMember : DataId → ℕ → DeviceState → DeviceState → Type 0
KeepsMember which node old new = (q : List ℕ) → IsPlace which node → IsNameOf which node q → IsNoWorse (old.file q) (new.file q)

-- so of one member on every physical_nodes node but one
abbrev pub ElseKept : Shape → DataId → ℕ → ℕ → (ℕ → DeviceState) → (ℕ → DeviceState) → Type 0
ElseKept shape which node p old new = (q : ℕ) → q < physical_nodes shape → q ≢ p → KeepsMember which node (old q) (new q)

-- so of one member everywhere
abbrev pub StaysPut : Shape → DataId → ℕ → (ℕ → DeviceState) → (ℕ → DeviceState) → Type 0
StaysPut shape which node old new = (q : ℕ) → q < physical_nodes shape → KeepsMember which node (old q) (new q)

-- what a read gives after the write of one byte, done or refused
abbrev pub ReadsTurned : ℕ → File → File → Type 0
ReadsTurned k f g = (g.now ≡ f.now) ⊎ ((byte : ℕ) × (g.now ≡ option_map (λ b. set b k byte) f.now))

-- the write of one gate's byte in a member's record, done or refused: but for this gate all stays
pub record WritesGate (which : DataId) (node gate : ℕ) (old new : DeviceState) : Type 0 where
  pub others : (q : List ℕ) → q ≢ record_name which node → new.file q ≡ old.file q
  pub body : (body : List ℕ) → KeepsBody (old.file (record_name which node)) body → KeepsBody (new.file (record_name which node)) body
  pub gates : (k : ℕ) (t : Gate) → k ≢ gate → GateIs (old.file (record_name which node)) k t → GateIs (new.file (record_name which node)) k t

-- on one device of the bay
pub record WritesAt (which : DataId) (node gate p : ℕ) (old new : ℕ → DeviceState) : Type 0 where
  pub elsewhere : (q : ℕ) → q ≢ p → new q ≡ old q
  pub here : WritesGate which node gate (old p) (new p)

-- one device is synced, done or refused
pub record SyncsAt (p : ℕ) (old new : ℕ → DeviceState) : Type 0 where
  pub elsewhere : (q : ℕ) → q ≢ p → new q ≡ old q
  pub here : (q : List ℕ) → IsNoWorse ((old p).file q) ((new p).file q)

-- and it was done
abbrev pub Rests : DeviceState → Type 0
Rests disk = (q : List ℕ) → IsAtRest (disk.file q)

-- a file of the member, under this name, is changed in some way on one device: written, removed, done or refused
pub record ChangesAt (which : DataId) (node : ℕ) (name : List ℕ) (p : ℕ) (old new : ℕ → DeviceState) : Type 0 where
  pub its : IsNameOf which node name
  pub elsewhere : (q : ℕ) → q ≢ p → new q ≡ old q
  pub others : (q : List ℕ) → q ≢ name → (new p).file q ≡ (old p).file q

-- bytes are written into a part of a member, done or refused
pub record WritesPartAt (which : DataId) (node : ℕ) (part : Part) (p : ℕ) (old new : ℕ → DeviceState) : Type 0 where
  pub elsewhere : (q : ℕ) → q ≢ p → new q ≡ old q
  pub others : (q : List ℕ) → q ≢ part_name which node part → (new p).file q ≡ (old p).file q

-- the body of a member's record is written, done or refused: gates that were shut stay so
pub record WritesBodyAt (which : DataId) (node p : ℕ) (old new : ℕ → DeviceState) : Type 0 where
  pub elsewhere : (q : ℕ) → q ≢ p → new q ≡ old q
  pub others : (q : List ℕ) → q ≢ record_name which node → (new p).file q ≡ (old p).file q
  pub shut : HasShutGates ((old p).file (record_name which node)) → HasShutGates ((new p).file (record_name which node))
