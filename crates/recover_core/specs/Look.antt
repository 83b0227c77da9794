-- What a look at all physical nodes finds.
use Rattle.std.specs.Prelude.{◌≡◌, ◌<◌, ℕ, true, List, length, slice_get, Some, Vec, Result, IfOk, IfErr, OnOk, OnErr, false}
use Rattle.std.specs.declared.alloc.Global.{Global}
use Rattle.scr_base.specs.declared.shape.DataId.{DataId}
use Rattle.scr_base.specs.declared.shape.Shape.{Shape}
use Rattle.node_device.specs.DeviceState.{DeviceState}
use Rattle.member_store.specs.Members.{ReadsMember}
use Rattle.member_store.specs.Names.{record_name}
use Rattle.member_store.specs.declared.member.Member.{Member}
use Rattle.ckpt_model.specs.declared.event.FoundRow.{FoundRow}
use Rattle.site_stands.specs.Cells.{Cells, cells_of, physical_nodes}
use Rattle.site_stands.specs.Look.{RowShows}
use Rattle.site_stands.specs.View.{Seals}
use Rattle.site_calls.specs.Calls.{Tells, TellsAlike, KeptAlike}
use Rattle.site_calls.specs.Causes.{CallCause, is_device_fault}
use Rattle.site_calls.specs.Writes.{IsNoWrite}
use Rattle.site_calls.specs.declared.trouble.Trouble.{Trouble}
use Rattle.recover_core.specs.Seen.{IsEarlier}
use Rattle.recover_core.specs.declared.found.FoundSet.{FoundSet}

-- the row that is told of it
abbrev pub row_of : FoundSet → FoundRow
row_of x = record { which = x.desc.which; lost = x.lost }

-- a record on a physical node that reads with `whole` open says what the dataset is
pub record IsTold (shape : Shape) (cells : Cells) (x : FoundSet) : Type 0 where
  pub place : ℕ
  pub member : Member
  pub low : place < physical_nodes shape
  pub reads : ReadsMember shape (record_name x.desc.which member.node) (cells place (record_name x.desc.which member.node)) member
  pub whole : member.whole ≡ true
  pub desc : member.desc ≡ x.desc
  pub files : member.files ≡ x.files

-- a dataset is found: some member is whole and sealed, and these nodes are lost, which aren't all
pub record IsFound (shape : Shape) (cells : Cells) (x : FoundSet) : Type 0 where
  pub told : IsTold shape cells x
  pub shows : RowShows shape cells (row_of x)
  pub few : length x.lost < shape.nodes
  pub sealed : (p : ℕ) × (node : ℕ) × Seals shape cells p x.desc.which node

-- these are all datasets of which some member is whole and sealed, by number and then by run
pub record AreFound (shape : Shape) (cells : Cells) (found : List FoundSet) : Type 0 where
  pub rising : (i j : ℕ) (x y : FoundSet) → i < j → slice_get found i ≡ Some x → slice_get found j ≡ Some y → IsEarlier x.desc.which y.desc.which
  pub sets : (i : ℕ) (x : FoundSet) → slice_get found i ≡ Some x → IsFound shape cells x
  pub every : (p : ℕ) (which : DataId) (node : ℕ) → Seals shape cells p which node → (i : ℕ) × (x : FoundSet) × (slice_get found i ≡ Some x) × (x.desc.which ≡ which)

-- a look, whole
pub record Looks (shape : Shape) (result : Result (Vec FoundSet Global) Trouble) (old new : ℕ → DeviceState) : Type 0 where
  -- where the devices tell their contents, all datasets are found that they hold
  pub found : IfOk result (λ found. Tells old → AreFound shape (cells_of old) found.items)
  -- no device changes; after a refusal one of them may have met a fault
  pub same : OnOk result (new ≡ old)
  pub refused : OnErr result ((p : ℕ) → KeptAlike (old p) (new p))
  pub cause : CallCause IsNoWrite old new result
  pub spared : IfErr result (λ trouble. is_device_fault trouble ≡ false → new ≡ old)
  pub tells : TellsAlike old new
