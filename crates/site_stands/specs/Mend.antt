-- A dataset that is being mended, node by node: the nodes are independent of one another, and a stop forgets how far they have come.
use Rattle.std.specs.Prelude.{◌≡◌, ◌≢◌, ◌<◌, ℕ, false, IsTrue, List, Some, slice_get}
use Rattle.scr_base.specs.declared.shape.Shape.{Shape}
use Rattle.scr_base.specs.Sets.{is_among}
use Rattle.node_device.specs.File.{File}
use Rattle.node_device.specs.DeviceState.{DeviceState}
use Rattle.member_store.specs.Names.{record_name}
use Rattle.ckpt_model.specs.Machine.{Kept, MemberState}
use Rattle.ckpt_model.specs.Loss.{has_no_home}
use Rattle.site_stands.specs.Cells.{physical_nodes}
use Rattle.site_stands.specs.Members.{HomeHolds, NodeStands, IsHidden}
use Rattle.site_stands.specs.Look.{IsFixed}
use Rattle.site_stands.specs.Gate.{Gate, GateIs, MemberIs}

-- how far one node of a dataset has come while it is mended
pub data Mend : Type 0 where
  -- as it was found: every record reads as every stop leaves it
  Waits : Mend
  -- files and body are being written in the place, where no stop leaves a record that reads with `whole` open
  Filling : Mend
  -- body and files are stable in the place; the gates `whole` and `sealed` have come so far
  Opening : Gate → Gate → Mend
  -- whole in the place; `sealed` has come so far
  Sealing : Gate → Mend
  -- whole and sealed in the place; the copies on the physical nodes before this one are shut, and this one's `whole` is so far
  Clearing : ℕ → Gate → Mend
  -- whole and sealed in the place, and shut everywhere else
  Done : Mend

-- a member that is sure stands on another home than the place
pub record StandsOff (shape : Shape) (states : ℕ → DeviceState) (k : Kept) (node : ℕ) (st : MemberState) (place : ℕ) : Type 0 where
  pub home : HomeHolds shape states k.dataset k.doubt node st.homes
  pub off : home.home ≢ place

-- so it is unless the member is lost or unsure
abbrev pub OffPlace : Shape → (ℕ → DeviceState) → Kept → ℕ → MemberState → ℕ → Type 0
OffPlace shape states k node st place = has_no_home st ≡ false → st.unsure ≡ false → StandsOff shape states k node st place

-- the node's record of the dataset on a physical node
abbrev pub record_at : (ℕ → DeviceState) → Kept → ℕ → ℕ → File
record_at states k node p = (states p).file (record_name k.dataset.which node)

-- off the place, no record of it is left whole on the physical nodes below a bound
abbrev pub IsHiddenOff : Shape → (ℕ → DeviceState) → Kept → ℕ → ℕ → ℕ → Type 0
IsHiddenOff shape states k node place bound = (p : ℕ) → p < bound → p < physical_nodes shape → p ≢ place → IsHidden shape (record_at states k node p) k.dataset.which node

-- the node of the dataset has come so far
abbrev pub MendIs : Shape → (ℕ → DeviceState) → Kept → ℕ → MemberState → ℕ → Mend → Type 0
MendIs shape states k node st place Mend.Waits = (p : ℕ) → p < physical_nodes shape → IsFixed (record_at states k node p)
MendIs shape states k node st place Mend.Filling = OffPlace shape states k node st place × IsHidden shape (record_at states k node place) k.dataset.which node
MendIs shape states k node st place (Mend.Opening whole sealed) = OffPlace shape states k node st place × MemberIs shape (states place) k.dataset node whole sealed
MendIs shape states k node st place (Mend.Sealing sealed) = (k.doubt ≡ false → OffPlace shape states k node st place) × MemberIs shape (states place) k.dataset node Gate.Open sealed
MendIs shape states k node st place (Mend.Clearing q whole) = MemberIs shape (states place) k.dataset node Gate.Open Gate.Open × IsHiddenOff shape states k node place q × (q < physical_nodes shape → q ≢ place → GateIs (record_at states k node q) 0 whole)
MendIs shape states k node st place Mend.Done = MemberIs shape (states place) k.dataset node Gate.Open Gate.Open × IsHiddenOff shape states k node place (physical_nodes shape)

-- one node of a dataset that is being mended
pub record MendHolds (shape : Shape) (states : ℕ → DeviceState) (k : Kept) (node : ℕ) (st : MemberState) (place : ℕ) (mend : Mend) : Type 0 where
  pub below : place < physical_nodes shape
  pub is_home : IsTrue (is_among place st.homes)
  pub stands : NodeStands shape states k.dataset k.doubt node st
  pub at : MendIs shape states k node st place mend

-- a dataset that is being mended: each node by itself
abbrev pub MendsKept : Shape → (ℕ → DeviceState) → List ℕ → Kept → (ℕ → Mend) → Type 0
MendsKept shape states places k mends = (node : ℕ) (st : MemberState) → slice_get k.members node ≡ Some st → (place : ℕ) × (slice_get places node ≡ Some place) × MendHolds shape states k node st place (mends node)
