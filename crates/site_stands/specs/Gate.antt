-- How far gates have come: a member with its two gates, and the members of a dataset on the places of a run.
use Rattle.std.specs.Prelude.{◌≡◌, ◌≢◌, ◌<◌, ℕ, List, Some, slice_get}
use Rattle.scr_base.specs.declared.shape.Shape.{Shape}
use Rattle.node_device.specs.File.{File}
use Rattle.node_device.specs.DeviceState.{DeviceState, ChangesOnly}
use Rattle.gated_record.specs.Record.{IsOpen, KeepsBody}
use Rattle.gate_outcomes.specs.Leaves.{Leaves}
use Rattle.gate_outcomes.specs.Gates.{StaysOpen}
use Rattle.member_store.specs.Names.{record_name, part_name, IsPlace, IsNameOf}
use Rattle.member_store.specs.declared.part.Part.{Part}
use Rattle.ckpt_model.specs.Dataset.{Dataset}
use Rattle.site_stands.specs.Cells.{physical_nodes}
use Rattle.site_stands.specs.Members.{MemberStands, IsHidden}

-- how far one gate has come
pub data Gate : Type 0 where
  -- shut after every stop
  Shut : Gate
  -- nothing is said
  Loose : Gate
  -- reads as open, and isn't synced yet
  Turning : Gate
  -- reads as shut, and isn't synced yet
  Closing : Gate
  -- open after every stop
  Open : Gate

-- gate k of the file has come so far
abbrev pub GateIs : File → ℕ → Gate → Type 0
GateIs f k Gate.Shut = Leaves f (λ o. IsOpen o k → ⊥)
GateIs f k Gate.Loose = Unit {0}
GateIs f k Gate.Turning = IsOpen f.now k
GateIs f k Gate.Closing = IsOpen f.now k → ⊥
GateIs f k Gate.Open = Leaves f (λ o. IsOpen o k)

-- what a sync makes of it
abbrev pub synced : Gate → Gate
synced Gate.Turning = Gate.Open
synced Gate.Closing = Gate.Shut
synced g = g

-- a member, and how far its gates `whole` and `sealed` have come
pub record MemberIs (shape : Shape) (disk : DeviceState) (d : Dataset) (node : ℕ) (whole sealed : Gate) : Type 0 where
  pub member : MemberStands shape disk d node
  pub first : GateIs (disk.file (record_name d.which node)) 0 whole
  pub second : GateIs (disk.file (record_name d.which node)) 1 sealed

-- The members of a dataset on the places of a run, each with its gates, and no record of it anywhere else that is whole.
pub record GatesHold (shape : Shape) (states : ℕ → DeviceState) (places : List ℕ) (d : Dataset) (whole sealed : ℕ → Gate) : Type 0 where
  pub members : (node p : ℕ) → slice_get places node ≡ Some p → (p < physical_nodes shape) × MemberIs shape (states p) d node (whole node) (sealed node)
  pub elsewhere : (p node : ℕ) → p < physical_nodes shape → (slice_get places node ≡ Some p → ⊥) → IsHidden shape ((states p).file (record_name d.which node)) d.which node

-- the write of one gate of one node's record: that file alone is changed, with its body and its other gate as they were
pub record TurnsOneGate (old new : ℕ → DeviceState) (d : Dataset) (node place gate other : ℕ) : Type 0 where
  pub others : (p : ℕ) → p ≢ place → new p ≡ old p
  pub only : ChangesOnly (record_name d.which node) (old place) (new place)
  pub body : (body : List ℕ) → KeepsBody ((old place).file (record_name d.which node)) body → KeepsBody ((new place).file (record_name d.which node)) body
  pub stays : StaysOpen ((old place).file (record_name d.which node)) other → StaysOpen ((new place).file (record_name d.which node)) other
  pub apart : (i : ℕ) (q : List ℕ) → i ≢ node → IsPlace d.which i → IsNameOf d.which i q → q ≢ record_name d.which node
  pub no_part : (part : Part) → part_name d.which node part ≢ record_name d.which node
