-- What the beginning of a drop finds.
use Rattle.std.specs.Prelude.{◌≡◌, ◌≢◌, ◌<◌, ◌^◌, ℕ, true, List, All, slice_get, Option, None, Some}
use Rattle.scr_base.specs.declared.shape.DataId.{DataId}
use Rattle.scr_base.specs.declared.change.Change.{Change}
use Rattle.scr_base.specs.Stages.{left}
use Rattle.node_device.specs.DeviceState.{DeviceState}
use Rattle.prefix_store.specs.Calls.{AreFilesUnder}
use Rattle.prefix_index.specs.Names.{entry_name}
use Rattle.prefix_index.specs.Drops.{Closing, drop_changes, IsDropChange, IsFirst, NoneOfId}
use Rattle.prefix_index.specs.declared.entry.Entry.{Entry}

-- none of these entries has the id
abbrev pub NoneHasId : List Entry → ℕ → Type 0
NoneHasId entries id = (k : ℕ) (e : Entry) → slice_get entries k ≡ Some e → e.desc.which.id ≢ id

-- this is the first of these entries that has the id
pub record FirstHasId (entries : List Entry) (id : ℕ) (e : Entry) : Type 0 where
  pub place : ℕ
  pub at : slice_get entries place ≡ Some e
  pub has : e.desc.which.id ≡ id
  pub before : (k : ℕ) (other : Entry) → k < place → slice_get entries k ≡ Some other → other.desc.which.id ≢ id

-- these are the changes of the drop of an entry of which none is made
pub record HasBegun (which : DataId) (folder : List ℕ) (d : DeviceState) (changes : List Change) : Type 0 where
  pub names : List (List ℕ)
  pub changes_are : changes ≡ drop_changes (entry_name which) names Closing
  pub files : AreFilesUnder folder d names
  pub each : All IsDropChange changes

-- the first entry of the id, and the changes of its drop
pub record BeginsDrop (id : ℕ) (d : DeviceState) (changes : List Change) : Type 0 where
  pub entry : Entry
  pub first : d.tells ≡ true → IsFirst d entry
  pub has : entry.desc.which.id ≡ id
  pub begun : HasBegun entry.desc.which entry.desc.name d changes

-- no entry of the id, or the stage of the drop of the first one
abbrev pub FindsDrop : ℕ → DeviceState → Option (Option (List Change)) → Type 0
FindsDrop id d None = d.tells ≡ true → NoneOfId d id
FindsDrop id d (Some None) = ⊥
FindsDrop id d (Some (Some changes)) = BeginsDrop id d changes × (left (Some changes) < 2 ^ 64)
