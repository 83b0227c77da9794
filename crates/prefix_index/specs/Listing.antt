-- What a reading of the index knows of the entries so far.
use Rattle.std.specs.Prelude.{◌≡◌, ◌≢◌, ◌<◌, ◌≤◌, ◌==◌, ◌/◌, ◌%◌, ℕ, List, length, All, Contains, insert, slice_get, Some}
use Rattle.scr_base.specs.declared.shape.DataId.{DataId}
use Rattle.node_device.specs.DeviceState.{DeviceState}
use Rattle.gated_record.specs.declared.reading.Record.{Record}
use Rattle.prefix_index.specs.Names.{entry_name}
use Rattle.prefix_index.specs.Entries.{MaySay, IsEntry, HasEntry, IsBefore, entry_body}
use Rattle.prefix_index.specs.declared.entry.Entry.{Entry}
use Rattle.prefix_index.specs.declared.tree.Found.{Found}

-- the entry of a record with these gates that says this
abbrev pub entry_of : ℕ → Found → Entry
entry_of gates f = record { desc = f.desc; files = f.files; failed = gates / 2 % 2 == 1 }

-- a record that stands under this name is this entry
pub record RecordIs (name : List ℕ) (r : Record) (e : Entry) : Type 0 where
  pub named : name ≡ entry_name e.desc.which
  pub indexed : r.gates % 2 ≡ 1
  pub failed : e.failed ≡ (r.gates / 2 % 2 == 1)
  pub body : r.body ≡ entry_body e.desc e.files
  pub says : MaySay e

-- all entries in front of the place are before this one, and the one at the place isn't
pub record IsPlaceFor (entries : List Entry) (e : Entry) (place : ℕ) : Type 0 where
  pub within : place ≤ length entries
  pub before : (i : ℕ) (a : Entry) → i < place → slice_get entries i ≡ Some a → IsBefore a e
  pub stop : (a : Entry) → slice_get entries place ≡ Some a → ¬ IsBefore a e

-- the entry has come to the place behind those that are before it
pub record PutsEntry (old : List Entry) (e : Entry) (new : List Entry) : Type 0 where
  pub place : ℕ
  pub is_place : IsPlaceFor old e place
  pub put : new ≡ insert old place e

-- each entry is before the later ones
abbrev pub AreAscending : List Entry → Type 0
AreAscending entries = (i j : ℕ) (a b : Entry) → i < j → slice_get entries i ≡ Some a → slice_get entries j ≡ Some b → IsBefore a b

-- the file of an index record is this entry, and its name is one of these
pub record IsMet (d : DeviceState) (names : List (List ℕ)) (e : Entry) : Type 0 where
  pub reads : HasEntry d e
  pub met : Contains names (entry_name e.desc.which)

-- these are all the entries that the files of these names are, in order
pub record AreMet (d : DeviceState) (names : List (List ℕ)) (entries : List Entry) : Type 0 where
  pub ascending : AreAscending entries
  pub read : All (IsMet d names) entries
  pub every : (name : List ℕ) (e : Entry) → Contains names name → IsEntry name (d.file name).now e → Contains entries e

-- none of these entries has the name
abbrev pub NoneHasName : List Entry → List ℕ → Type 0
NoneHasName entries name = (k : ℕ) (e : Entry) → slice_get entries k ≡ Some e → e.desc.name ≢ name

-- this one of the entries has the name
abbrev pub OneHasName : List Entry → List ℕ → DataId → Type 0
OneHasName entries name which = (k : ℕ) × (e : Entry) × (slice_get entries k ≡ Some e) × (e.desc.name ≡ name) × (e.desc.which ≡ which)
