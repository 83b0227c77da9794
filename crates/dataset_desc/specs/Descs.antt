-- The tree of a description, and the trees that have its parts.
use Rattle.std.specs.Prelude.{◌≡◌, Some, IsTrue, codes}
use Rattle.scr_base.specs.Words.{is_name}
use Rattle.kvtree.specs.Entries.{Entries, none, entry}
use Rattle.kvtree.specs.Lookup.{get}
use Rattle.dataset_desc.specs.Parts.{dset_tree, scheme_tree, shape_tree}
use Rattle.dataset_desc.specs.declared.desc.Desc.{Desc}

-- DSET{..} SCHEME{..} SHAPE{..}
abbrev pub desc_tree : Desc → Entries
desc_tree desc =
    entry (codes "DSET") (dset_tree desc.flags desc.which.id desc.name desc.which.run)
    (entry (codes "SCHEME") (scheme_tree desc.scheme desc.size)
    (entry (codes "SHAPE") (shape_tree desc.nodes desc.ranks) none))

-- the tree's parts are those of this description; other keys may stand beside them
pub record HasParts (tree : Entries) (desc : Desc) : Type 0 where
  pub dset : get tree (codes "DSET") ≡ Some (dset_tree desc.flags desc.which.id desc.name desc.which.run)
  pub scheme : get tree (codes "SCHEME") ≡ Some (scheme_tree desc.scheme desc.size)
  pub shape : get tree (codes "SHAPE") ≡ Some (shape_tree desc.nodes desc.ranks)
  pub named : IsTrue (is_name desc.name)
