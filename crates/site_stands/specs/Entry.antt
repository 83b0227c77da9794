-- The records of the index, the files under their folders, and the mark.
use Rattle.std.specs.Prelude.{◌≡◌, ◌*◌, ℕ, List, ◌∷◌, ◌++◌, Option, None, Some, Result, Ok, Err, IsTrue, codes, decimal, bytes_eq, if◌then◌else◌, option_and_then}
use Rattle.scr_base.specs.Words.{is_name}
use Rattle.scr_base.specs.declared.shape.DataId.{DataId}
use Rattle.gated_record.specs.Record.{HasBody}
use Rattle.gated_record.specs.declared.pair.PairValue.{PairValue}
use Rattle.kvtree.specs.Entries.{Entries, none, entry}
use Rattle.kvtree.specs.Lookup.{leaf}
use Rattle.kvtree.specs.Encoding.{encoding}
use Rattle.kvtree.specs.Reading.{all_of}
use Rattle.kvtree.specs.declared.error.TreeError.{TreeError}
use Rattle.halt_file.specs.Payloads.{number_under}
use Rattle.dataset_desc.specs.Parts.{dset_tree, scheme_tree, shape_tree}
use Rattle.dataset_desc.specs.declared.desc.Desc.{Desc}
use Rattle.filemap.specs.Maps.{IsMap, map_tree}
use Rattle.filemap.specs.declared.rows.FileRow.{FileRow}

-- x.ID.RUN
abbrev pub entry_name : DataId → List ℕ
entry_name which = codes "x." ++ decimal which.id ++ 46 ∷ decimal which.run

-- NAME/rRANK/FILE
abbrev pub flushed_name : List ℕ → ℕ → List ℕ → List ℕ
flushed_name name rank file = name ++ codes "/r" ++ decimal rank ++ 47 ∷ file

-- DSET{..} FILES{..} FORMAT{1} SCHEME{..} SHAPE{..}
unfoldable pub entry_body : Desc → List (List FileRow) → List ℕ
entry_body desc files = encoding
    (entry (codes "DSET") (dset_tree desc.flags desc.which.id desc.name desc.which.run)
    (entry (codes "FILES") (map_tree files)
    (entry (codes "FORMAT") (leaf (codes "1"))
    (entry (codes "SCHEME") (scheme_tree desc.scheme desc.size)
    (entry (codes "SHAPE") (shape_tree desc.nodes desc.ranks) none)))))

-- these bytes read as the index record of that dataset
pub record ReadsEntry (o : Option (List ℕ)) (which : DataId) : Type 0 where
  pub desc : Desc
  pub rows : List (List FileRow)
  pub which_is : desc.which ≡ which
  pub named : IsTrue (is_name desc.name)
  pub map : IsMap (desc.nodes * desc.ranks) rows
  pub body : HasBody o (entry_body desc rows)

-- ID{..} RUN{..}
unfoldable pub mark_payload : DataId → List ℕ
mark_payload which = encoding (entry (codes "ID") (leaf (decimal which.id)) (entry (codes "RUN") (leaf (decimal which.run)) none))

-- the identity that a tree tells, if this payload spells it
unfoldable pub mark_spelled : List ℕ → DataId → Option DataId
mark_spelled payload which = if bytes_eq (mark_payload which) payload then Some which else None

-- the identity under ID and RUN, if this payload spells it
abbrev pub mark_told : List ℕ → Entries → Option DataId
mark_told payload t = option_and_then (λ id. option_and_then (λ run. let which : DataId = record { id = id; run = run } in mark_spelled payload which) (number_under t (codes "RUN"))) (number_under t (codes "ID"))

-- what a payload that reads as a tree tells
abbrev pub mark_by : List ℕ → Result Entries TreeError → Option DataId
mark_by payload (Ok t) = mark_told payload t
mark_by payload (Err e) = None

-- the mark that the standing value of the pair `cur` tells
abbrev pub mark_in : Option PairValue → Option DataId
mark_in None = None
mark_in (Some value) = mark_by value.body (all_of value.body)
