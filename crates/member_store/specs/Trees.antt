-- What a tree says of a member.
use Rattle.std.specs.Prelude.{◌≡◌, ◌<◌, ◌*◌, ℕ, IsTrue, codes, decimal}
use Rattle.scr_base.specs.Words.{is_name}
use Rattle.scr_base.specs.declared.shape.Shape.{Shape}
use Rattle.kvtree.specs.Entries.{Entries, none, entry}
use Rattle.kvtree.specs.Lookup.{leaf}
use Rattle.filemap.specs.Maps.{IsMap}
use Rattle.member_store.specs.Members.{member_tree}
use Rattle.member_store.specs.declared.tree.Found.{Found}

-- the keys of a member's record, with these trees under them
abbrev pub record_tree : Entries → Entries → ℕ → Entries → Entries → Entries
record_tree dset files node scheme shape =
    entry (codes "DSET") dset
    (entry (codes "FILES") files
    (entry (codes "FORMAT") (leaf (codes "1"))
    (entry (codes "NODE") (leaf (decimal node))
    (entry (codes "SCHEME") scheme
    (entry (codes "SHAPE") shape none)))))

-- a tree has these keys alone, with this under FILES and NODE
pub record HasKeys (tree files : Entries) (node : ℕ) : Type 0 where
  pub dset : Entries
  pub scheme : Entries
  pub shape : Entries
  pub is : tree ≡ record_tree dset files node scheme shape

-- the tree is that of a member's record on a site of this shape
pub record Says (shape : Shape) (tree : Entries) (f : Found) : Type 0 where
  pub tree_is : tree ≡ member_tree f.desc f.node f.files
  pub named : IsTrue (is_name f.desc.name)
  pub nodes : f.desc.nodes ≡ shape.nodes
  pub ranks : f.desc.ranks ≡ shape.ranks
  pub node_is : f.node < f.desc.nodes
  pub files : IsMap (f.desc.nodes * f.desc.ranks) f.files
