-- What the devices of a site show, by what reads give or a stop leaves, in the machine's words.
use Rattle.std.specs.Prelude.{◌≡◌, ◌⊎◌, ◌<◌, ℕ, Bool, false, List, Option, Some, None, codes, slice_get}
use Rattle.scr_base.specs.declared.shape.DataId.{DataId}
use Rattle.scr_base.specs.declared.shape.Shape.{Shape}
use Rattle.gated_record.specs.Record.{HasBody, IsOpen, is_open}
use Rattle.gated_record.specs.Pair.{pair_value}
use Rattle.gated_record.specs.declared.pair.PairValue.{PairValue}
use Rattle.halt_file.specs.Stores.{halt_in}
use Rattle.dataset_desc.specs.declared.desc.Desc.{Desc}
use Rattle.filemap.specs.declared.rows.FileRow.{FileRow}
use Rattle.member_store.specs.Names.{record_name, part_name}
use Rattle.member_store.specs.Members.{ReadsMember, member_body}
use Rattle.member_store.specs.declared.member.Member.{Member}
use Rattle.member_store.specs.declared.part.Part.TheVariants.{File as FilePart, Share as SharePart}
use Rattle.ckpt_model.specs.Dataset.{Dataset, File, files_of}
use Rattle.ckpt_model.specs.Shows.{BayView}
use Rattle.site_stands.specs.Cells.{Cells, prefix_place, physical_nodes}
use Rattle.site_stands.specs.Entry.{entry_name, flushed_name, entry_body, ReadsEntry, mark_in}
use Rattle.site_stands.specs.Described.{Describes, IsFileAt, is_single, IsShareAt}

-- the bytes read as the record of that member
pub record IsRecord (shape : Shape) (o : Option (List ℕ)) (which : DataId) (node : ℕ) (x : Member) : Type 0 where
  pub which_is : x.which ≡ which
  pub node_is : x.node ≡ node
  pub reads : ReadsMember shape (record_name which node) o x

-- the bytes read as a record of that member
abbrev pub Reads : Shape → Option (List ℕ) → DataId → ℕ → Type 0
Reads shape o which node = (x : Member) × IsRecord shape o which node x

-- the record of that member on a physical node reads, and is whole
pub record Opens (shape : Shape) (cells : Cells) (p : ℕ) (which : DataId) (node : ℕ) : Type 0 where
  pub place : p < physical_nodes shape
  pub reads : Reads shape (cells p (record_name which node)) which node
  pub whole : IsOpen (cells p (record_name which node)) 0

-- and is sealed
pub record Seals (shape : Shape) (cells : Cells) (p : ℕ) (which : DataId) (node : ℕ) : Type 0 where
  pub opens : Opens shape cells p which node
  pub sealed : IsOpen (cells p (record_name which node)) 1

-- record, files and shares are that member of the dataset
pub record IsMemberOf (shape : Shape) (files : List ℕ → Option (List ℕ)) (d : Dataset) (node : ℕ) : Type 0 where
  pub desc : Desc
  pub rows : List (List FileRow)
  pub describes : Describes shape desc rows d
  pub small : node < shape.nodes
  pub body : HasBody (files (record_name d.which node)) (member_body desc node rows)
  pub files_are : (local j : ℕ) (f : File) → IsFileAt shape d node local j f → files (part_name d.which node (FilePart local j)) ≡ Some f.bytes
  pub shares : (local : ℕ) → local < shape.ranks → is_single d.scheme ≡ false → (share : List ℕ) × IsShareAt d node local share × (files (part_name d.which node (SharePart local)) ≡ Some share)

-- the index record of that identity reads with `indexed` open, and `failed` so
pub record Lists (files : List ℕ → Option (List ℕ)) (which : DataId) (failed : Bool) : Type 0 where
  pub reads : ReadsEntry (files (entry_name which)) which
  pub indexed : IsOpen (files (entry_name which)) 0
  pub failed_is : is_open (files (entry_name which)) 1 ≡ failed

-- the index record is that of the dataset, and so are the files under its folder
pub record IsEntryOf (shape : Shape) (files : List ℕ → Option (List ℕ)) (d : Dataset) : Type 0 where
  pub desc : Desc
  pub rows : List (List FileRow)
  pub describes : Describes shape desc rows d
  pub body : HasBody (files (entry_name d.which)) (entry_body desc rows)
  pub flushed : (rank j : ℕ) (f : File) → slice_get (files_of d rank) j ≡ Some f → files (flushed_name d.name rank f.name) ≡ Some f.bytes

-- a record that reads names this run
abbrev pub Names : Shape → Cells → ℕ → Type 0
Names shape cells run = (which : DataId) × (which.run ≡ run)
    × (((p : ℕ) × (node : ℕ) × (p < physical_nodes shape) × Reads shape (cells p (record_name which node)) which node) ⊎ ReadsEntry (cells prefix_place (entry_name which)) which)

-- the number of the last run, 0 for none
abbrev pub run_in : Option PairValue → ℕ
run_in None = 0
run_in (Some value) = value.version

-- all that the devices show of the machine's state
abbrev pub site_view : Shape → Cells → BayView
site_view shape cells = record {
  opens = Opens shape cells;
  seals = Seals shape cells;
  is = λ p d node. IsMemberOf shape (cells p) d node;
  lists = Lists (cells prefix_place);
  holds = IsEntryOf shape (cells prefix_place);
  names = Names shape cells;
  run = run_in (pair_value (codes "run") (cells prefix_place));
  halt = halt_in (pair_value (codes "halt") (cells prefix_place));
  mark = mark_in (pair_value (codes "cur") (cells prefix_place));
}
