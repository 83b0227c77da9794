-- What recovery reads of all nodes, and the list that it makes of it.
use Rattle.std.specs.Prelude.{◌≡◌, ◌<◌, ℕ, true, false, List, [], ◌∷◌, length, nat_lt, Some, slice_get, IsTrue}
use Rattle.scr_base.specs.declared.shape.DataId.{DataId}
use Rattle.scr_base.specs.declared.shape.Shape.{Shape}
use Rattle.scr_base.specs.Sets.{is_among}
use Rattle.node_device.specs.File.{File}
use Rattle.node_device.specs.DeviceState.{DeviceState}
use Rattle.gate_outcomes.specs.Leaves.{Leaves}
use Rattle.member_store.specs.Names.{record_name}
use Rattle.ckpt_model.specs.declared.event.FoundRow.{FoundRow}
use Rattle.ckpt_model.specs.Loss.{are_nodes}
use Rattle.site_stands.specs.Cells.{Cells, physical_nodes}
use Rattle.site_stands.specs.View.{Opens, Seals}

-- what a stop leaves of the file is what a read gives
abbrev pub IsFixed : File → Type 0
IsFixed f = Leaves f (λ o. o ≡ f.now)

-- each record of the dataset is so
abbrev pub IsUntouched : Shape → (ℕ → DeviceState) → DataId → Type 0
IsUntouched shape states which = (p node : ℕ) → p < physical_nodes shape → IsFixed ((states p).file (record_name which node))

-- a row lists exactly the nodes of which no record reads with `whole` open
pub record RowShows (shape : Shape) (cells : Cells) (row : FoundRow) : Type 0 where
  pub nodes : IsTrue (are_nodes shape.nodes row.lost)
  pub gone : (node p : ℕ) → is_among node row.lost ≡ true → Opens shape cells p row.which node → ⊥
  pub found : (node : ℕ) → node < shape.nodes → is_among node row.lost ≡ false → (p : ℕ) × Opens shape cells p row.which node

-- ids rise, each below all that come later
abbrev pub RowsRise : List FoundRow → Type 0
RowsRise [] = Unit {0}
RowsRise (row ∷ rows) = ((j : ℕ) (r : FoundRow) → slice_get rows j ≡ Some r → row.which.id < r.which.id) × RowsRise rows

-- The list that recovery makes of what reads give: each identity of which some record is whole and sealed, by rising id, with the nodes of
-- which no record is whole.
pub record IsList (shape : Shape) (cells : Cells) (rows : List FoundRow) : Type 0 where
  pub rise : RowsRise rows
  pub shown : (row : FoundRow) (l : ℕ) → slice_get rows l ≡ Some row → RowShows shape cells row × IsTrue (nat_lt (length row.lost) shape.nodes) × ((p : ℕ) × (node : ℕ) × Seals shape cells p row.which node)
  pub whole : (p : ℕ) (which : DataId) (node : ℕ) → Seals shape cells p which node → (row : FoundRow) × (l : ℕ) × (slice_get rows l ≡ Some row) × (row.which ≡ which)
