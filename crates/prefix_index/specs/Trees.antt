-- What a tree says of an entry.
use Rattle.std.specs.Prelude.{◌≡◌, ◌*◌, IsTrue, codes}
use Rattle.scr_base.specs.Words.{is_name}
use Rattle.kvtree.specs.Entries.{Entries, none, entry}
use Rattle.kvtree.specs.Lookup.{leaf}
use Rattle.filemap.specs.Maps.{IsMap}
use Rattle.prefix_index.specs.Entries.{entry_tree}
use Rattle.prefix_index.specs.declared.tree.Found.{Found}

-- the keys of an index record, with these trees under them
abbrev pub record_tree : Entries → Entries → Entries → Entries → Entries
record_tree dset files scheme shape =
    entry (codes "DSET") dset
    (entry (codes "FILES") files
    (entry (codes "FORMAT") (leaf (codes "1"))
    (entry (codes "SCHEME") scheme
    (entry (codes "SHAPE") shape none))))

-- a tree has these keys alone, with this under FILES
pub record HasKeys (tree files : Entries) : Type 0 where
  pub dset : Entries
  pub scheme : Entries
  pub shape : Entries
  pub is : tree ≡ record_tree dset files scheme shape

-- the tree is that of an index record
pub record Says (tree : Entries) (f : Found) : Type 0 where
  pub tree_is : tree ≡ entry_tree f.desc f.files
  pub named : IsTrue (is_name f.desc.name)
  pub files : IsMap (f.desc.nodes * f.desc.ranks) f.files
