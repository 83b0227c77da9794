-- A dataset that is made whole, and where its members go.
use Rattle.std.specs.Prelude.{◌≡◌, ◌<◌, ◌*◌, ℕ, List, All, length, map}
use Rattle.std.specs.List.{sum_by}
use Rattle.filemap.specs.declared.rows.FileRow.{FileRow}

-- the files of so many nodes with so many ranks each, and a physical node for each node
pub record IsCommitSet (nodes ranks : ℕ) (files : List (List FileRow)) (places : List ℕ) : Type 0 where
  pub ranks_are : length files ≡ nodes * ranks
  pub places_are : length places ≡ nodes
  pub low : All (λ place. place < 32) places

-- how many bytes a rank's files have
abbrev pub rows_length : List FileRow → ℕ
rows_length rows = sum_by (λ row. row.len) rows

-- the bytes of each rank's stream
abbrev pub stream_lengths : List (List FileRow) → List ℕ
stream_lengths files = map rows_length files
