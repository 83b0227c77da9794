-- What records say of a dataset, and what stands beside a record: its files and shares.
use Rattle.std.specs.Prelude.{◌≡◌, ◌<◌, ◌+◌, ◌*◌, ◌/◌, ◌%◌, ℕ, Bool, true, false, IsTrue, List, map, length, flat_map, Some, slice_get}
use Rattle.scr_base.specs.Sets.{group_count, ranks_of_set}
use Rattle.scr_base.specs.Words.{is_name}
use Rattle.scr_base.specs.declared.shape.Shape.{Shape}
use Rattle.scr_base.specs.declared.shape.Scheme.{Scheme}
use Rattle.scr_base.specs.declared.shape.Scheme.TheVariants.{Single}
use Rattle.dataset_desc.specs.declared.desc.Desc.{Desc}
use Rattle.filemap.specs.Maps.{IsMap}
use Rattle.filemap.specs.declared.rows.FileRow.{FileRow}
use Rattle.ckpt_model.specs.Dataset.{Dataset, File, files_of}
use Rattle.member_shares.specs.Shares.{IsShare}

-- a record with this description and these rows is one of the dataset, on a site of this shape
pub record Describes (shape : Shape) (desc : Desc) (rows : List (List FileRow)) (d : Dataset) : Type 0 where
  pub which : desc.which ≡ d.which
  pub name : desc.name ≡ d.name
  pub flags : desc.flags ≡ d.flags
  pub site : d.shape ≡ shape
  pub scheme : desc.scheme ≡ d.scheme
  pub size : desc.size ≡ d.size
  pub names : map (map (λ (row : FileRow). row.name)) rows ≡ map (map (λ (f : File). f.name)) d.files
  pub lengths : map (map (λ (row : FileRow). row.len)) rows ≡ map (map (λ (f : File). length f.bytes)) d.files
  pub named : IsTrue (is_name desc.name)
  pub nodes : desc.nodes ≡ shape.nodes
  pub ranks : desc.ranks ≡ shape.ranks
  pub map : IsMap (shape.nodes * shape.ranks) rows

-- the file of that number of the node's rank of that local number
abbrev pub IsFileAt : Shape → Dataset → ℕ → ℕ → ℕ → File → Type 0
IsFileAt shape d node local j f = (local < shape.ranks) × (slice_get (files_of d (node * shape.ranks + local)) j ≡ Some f)

-- a scheme that keeps no share
abbrev pub is_single : Scheme → Bool
is_single Single = true
is_single _ = false

-- what a rank wrote, its files one behind the other
abbrev pub stream_of : Dataset → ℕ → List ℕ
stream_of d rank = flat_map (λ (f : File). f.bytes) (files_of d rank)

-- the streams of the set of a node's rank of that local number
abbrev pub set_streams : Dataset → ℕ → ℕ → List (List ℕ)
set_streams d node local = map (stream_of d) (ranks_of_set d.shape.nodes d.shape.ranks d.size (node % group_count d.shape.nodes d.size) local)

-- the node's rank of that local number keeps this for the others of its set
abbrev pub IsShareAt : Dataset → ℕ → ℕ → List ℕ → Type 0
IsShareAt d node local share = IsShare d.scheme (set_streams d node local) (node / group_count d.shape.nodes d.size) share
