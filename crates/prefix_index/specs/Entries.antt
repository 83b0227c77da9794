-- What an index record says, and which entries a device's index has.
use Rattle.std.specs.Prelude.{◌≡◌, ◌⊎◌, ◌<◌, ◌*◌, ℕ, IsTrue, List, All, Contains, slice_get, Option, Some, codes}
use Rattle.scr_base.specs.Words.{is_name}
use Rattle.scr_base.specs.declared.shape.DataId.{DataId}
use Rattle.node_device.specs.DeviceState.{DeviceState}
use Rattle.gated_record.specs.Record.{HasBody, IsOpen, is_open}
use Rattle.kvtree.specs.Entries.{Entries, none, entry}
use Rattle.kvtree.specs.Lookup.{leaf}
use Rattle.kvtree.specs.Encoding.{encoding}
use Rattle.dataset_desc.specs.Parts.{dset_tree, scheme_tree, shape_tree}
use Rattle.dataset_desc.specs.declared.desc.Desc.{Desc}
use Rattle.filemap.specs.Maps.{IsMap, map_tree}
use Rattle.filemap.specs.declared.rows.FileRow.{FileRow}
use Rattle.prefix_index.specs.Names.{entry_name}
use Rattle.prefix_index.specs.declared.entry.Entry.{Entry}

-- DSET{..} FILES{..} FORMAT{1} SCHEME{..} SHAPE{..}
abbrev pub entry_tree : Desc → List (List FileRow) → Entries
entry_tree desc files =
    entry (codes "DSET") (dset_tree desc.flags desc.which.id desc.name desc.which.run)
    (entry (codes "FILES") (map_tree files)
    (entry (codes "FORMAT") (leaf (codes "1"))
    (entry (codes "SCHEME") (scheme_tree desc.scheme desc.size)
    (entry (codes "SHAPE") (shape_tree desc.nodes desc.ranks) none))))

-- the body of an index record
unfoldable pub entry_body : Desc → List (List FileRow) → List ℕ
entry_body desc files = encoding (entry_tree desc files)

-- these bytes read as the index record of that dataset, whatever its gates
pub record ReadsEntry (o : Option (List ℕ)) (which : DataId) : Type 0 where
  pub desc : Desc
  pub rows : List (List FileRow)
  pub which_is : desc.which ≡ which
  pub named : IsTrue (is_name desc.name)
  pub map : IsMap (desc.nodes * desc.ranks) rows
  pub body : HasBody o (entry_body desc rows)

-- what an index record may say
pub record MaySay (e : Entry) : Type 0 where
  pub named : IsTrue (is_name e.desc.name)
  pub files : IsMap (e.desc.nodes * e.desc.ranks) e.files

-- A file of this name and these bytes is this entry of the index: its gate `indexed` is open, its gate `failed` tells whether
-- the entry is failed, and its body says the rest.
pub record IsEntry (name : List ℕ) (bytes : Option (List ℕ)) (e : Entry) : Type 0 where
  pub named : name ≡ entry_name e.desc.which
  pub indexed : IsOpen bytes 0
  pub failed : e.failed ≡ is_open bytes 1
  pub body : HasBody bytes (entry_body e.desc e.files)
  pub says : MaySay e

-- by the identity: its number, and then its run
abbrev pub IsBefore : Entry → Entry → Type 0
IsBefore a b = (a.desc.which.id < b.desc.which.id) ⊎ ((a.desc.which.id ≡ b.desc.which.id) × (a.desc.which.run < b.desc.which.run))

-- this is an entry of the device's index
abbrev pub HasEntry : DeviceState → Entry → Type 0
HasEntry d e = IsEntry (entry_name e.desc.which) (d.file (entry_name e.desc.which)).now e

-- These are all the entries of the device's index, in order.
pub record AreEntries (d : DeviceState) (entries : List Entry) : Type 0 where
  pub ascending : (i j : ℕ) (a b : Entry) → i < j → slice_get entries i ≡ Some a → slice_get entries j ≡ Some b → IsBefore a b
  pub read : All (HasEntry d) entries
  pub every : (name : List ℕ) (e : Entry) → IsEntry name (d.file name).now e → Contains entries e
