-- Parts that are in their ranges are those of a description, and of one alone.
use Rattle.std.proofs.Common.{◌≡◌, ℕ, List, Some, codes, IsTrue}
use Rattle.scr_base.specs.Words.{is_name}
use Rattle.scr_base.specs.declared.shape.Flags.{Flags}
use Rattle.scr_base.specs.declared.shape.Scheme.{Scheme}
use Rattle.kvtree.specs.Entries.{Entries}
use Rattle.kvtree.specs.Lookup.{get}
use Rattle.dataset_desc.specs.Parts.{dset_tree, scheme_tree, shape_tree}
use Rattle.dataset_desc.specs.Descs.{HasParts}
use Rattle.dataset_desc.specs.declared.desc.Desc.{Desc}
use Rattle.dataset_desc.proofs.InRange.{DescRanges, is_desc_within}

-- what was read
pub record IsRead (tree : Entries) (flags : Flags) (id : ℕ) (name : List ℕ) (run : ℕ) (scheme : Scheme) (size nodes ranks : ℕ) : Type 0 where
  pub dset : get tree (codes "DSET") ≡ Some (dset_tree flags id name run)
  pub kind : get tree (codes "SCHEME") ≡ Some (scheme_tree scheme size)
  pub shape : get tree (codes "SHAPE") ≡ Some (shape_tree nodes ranks)
  pub named : IsTrue (is_name name)
  pub ranges : DescRanges (record { id = id; run = run }) nodes ranks scheme size

pub described : (tree : Entries) (flags : Flags) (id : ℕ) (name : List ℕ) (run : ℕ) (scheme : Scheme) (size nodes ranks : ℕ) → IsRead tree flags id name run scheme size nodes ranks → (desc : Desc) × HasParts tree desc
described tree flags id name run scheme size nodes ranks r =
    let desc : Desc = record {
      which = record { id = id; run = run };
      name = name;
      flags = flags;
      nodes = nodes;
      ranks = ranks;
      scheme = scheme;
      size = size;
      ranges = is_desc_within (record { id = id; run = run }) nodes ranks scheme size r.ranges;
    } in
    (desc, record { dset = r.dset; scheme = r.kind; shape = r.shape; named = r.named })
