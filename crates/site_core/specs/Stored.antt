-- What the files of a site hold, by what reads give.
use Rattle.std.specs.Prelude.{nat_lt, ◌&&◌, if◌then◌else◌, ◌≡◌, ◌≢◌, ◌⊎◌, ◌<◌, ◌≤◌, ◌*◌, ◌/◌, ◌%◌, ◌^◌, ℕ, Bool, true, false, IsTrue, List, [], length, Option, None, Some, slice_get, slice_index, codes}
use Rattle.scr_base.specs.Sets.{numbers_below}
use Rattle.scr_base.specs.declared.answers.Phase.TheVariants as phase
use Rattle.scr_base.specs.Words.{is_name}
use Rattle.scr_base.specs.Halt.{Halt}
use Rattle.halt_file.specs.Conditions.{conditions}
use Rattle.halt_file.specs.Stores.{halt_in}
use Rattle.scr_base.specs.declared.shape.DataId.{DataId}
use Rattle.scr_base.specs.declared.shape.Shape.{Shape}
use Rattle.node_device.specs.File.{bytes_of}
use Rattle.node_device.specs.DeviceState.{DeviceState}
use Rattle.gated_record.specs.Record.{HasBody, is_open}
use Rattle.gated_record.specs.Pair.{pair_value}
use Rattle.filemap.specs.Maps.{IsMap, rows_of}
use Rattle.filemap.specs.declared.rows.FileRow.{FileRow}
use Rattle.member_store.specs.Names.{record_name, part_name, IsPlace}
use Rattle.member_store.specs.Members.{member_body}
use Rattle.member_store.specs.declared.part.Part.TheVariants.{File}
use Rattle.site_stands.specs.Described.{is_single}
use Rattle.site_stands.specs.Entry.{entry_name, ReadsEntry, mark_in}
use Rattle.site_state.specs.declared.cache.Cached.{Cached}
use Rattle.site_state.specs.declared.cache.Manifest.{Manifest}
use Rattle.site_state.specs.declared.run_state.RunState.{RunState}
use Rattle.site_calls.specs.Numbers.{run_number}
use Rattle.site_state.specs.Shown.{Contents}
use Rattle.site_state.specs.Choosing.{AscendFrom, AreBelow, is_being_sealed}

-- what reads give, by place and name
abbrev pub Cells : Type 0
Cells = ℕ → List ℕ → Option (List ℕ)

abbrev pub cells_of : (ℕ → DeviceState) → Cells
cells_of states = λ p q. ((states p).file q).now

-- where a rank's files stand, on a site of so many ranks a node
abbrev pub place_of_rank : List ℕ → ℕ → ℕ → ℕ
place_of_rank places ranks rank = slice_index places (rank / ranks)

-- the name of a rank's file
abbrev pub file_name : DataId → ℕ → ℕ → ℕ → List ℕ
file_name which ranks rank j = part_name which (rank / ranks) (File (rank % ranks) j)

-- the numbers are such as names are made of
abbrev pub is_named : DataId → ℕ → ℕ → Bool
is_named which rank j = nat_lt which.id (2 ^ 32) && nat_lt which.run (2 ^ 32) && nat_lt rank (2 ^ 8) && nat_lt j (2 ^ 8)

-- the bytes of the files at these places
abbrev pub contents_in : Cells → List ℕ → ℕ → Contents
contents_in cells places ranks = λ which rank j. if is_named which rank j then bytes_of (cells (place_of_rank places ranks rank) (file_name which ranks rank j)) else []

-- the bytes of the files of a run
abbrev pub contents_of : Cells → RunState → Contents
contents_of cells c = contents_in cells c.places c.shape.ranks

-- the file is there, with as many bytes as its row says
pub record FileStands (o : Option (List ℕ)) (row : FileRow) : Type 0 where
  pub bytes : List ℕ
  pub there : o ≡ Some bytes
  pub len : length bytes ≡ row.len

-- the files of a dataset are there
abbrev pub FilesStand : Cells → List ℕ → ℕ → Manifest → Type 0
FilesStand cells places ranks m =
    (rank j : ℕ) (row : FileRow) → slice_get (rows_of m.files rank) j ≡ Some row → FileStands (cells (place_of_rank places ranks rank) (file_name m.desc.which ranks rank j)) row

-- the bytes are a node's record of the dataset, with its two gates so
pub record RecordIs (o : Option (List ℕ)) (m : Manifest) (node : ℕ) (whole sealed : Bool) : Type 0 where
  pub body : HasBody o (member_body m.desc node m.files)
  pub whole_is : is_open o 0 ≡ whole
  pub sealed_is : is_open o 1 ≡ sealed

-- each node's record of the dataset stands, sealed
abbrev pub RecordsStand : Cells → List ℕ → Manifest → Type 0
RecordsStand cells places m = (node p : ℕ) → slice_get places node ≡ Some p → RecordIs (cells p (record_name m.desc.which node)) m node true true

-- the dataset of this manifest is among these
abbrev pub IsAmong : List Cached → Manifest → Type 0
IsAmong sets m = (i : ℕ) × (x : Cached) × (slice_get sets i ≡ Some x) × (x.manifest ≡ m)

-- the run knows the dataset: it is in cache, or being written
abbrev pub IsKnown : RunState → Manifest → Type 0
IsKnown c m = (c.opened ≡ Some m) ⊎ IsAmong c.kept m

-- no record is there but those of these datasets, at home
abbrev pub NoOtherRecords : (Manifest → Type 0) → Cells → List ℕ → Type 0
NoOtherRecords known cells places =
    (p : ℕ) (which : DataId) (node : ℕ) → p < 32 → IsPlace which node → ((m : Manifest) → known m → m.desc.which ≡ which → slice_get places node ≡ Some p → ⊥) → cells p (record_name which node) ≡ None

-- an identity that no dataset has had: one of a later run, or of this one with a number from `next` on
abbrev pub IsFuture : ℕ → ℕ → DataId → Type 0
IsFuture run next which = (run < which.run) ⊎ ((which.run ≡ run) × (next ≤ which.id))

-- no file of such a dataset is there
abbrev pub NoFutureFiles : Cells → ℕ → ℕ → Type 0
NoFutureFiles cells run next =
    (p : ℕ) (which : DataId) (node local j : ℕ) → p < 32 → IsPlace which node → local < 2 ^ 8 → j < 2 ^ 8 → IsFuture run next which → cells p (part_name which node (File local j)) ≡ None

-- no file of a dataset is there past those that its ranks routed
abbrev pub NoMoreFiles : Cells → List ℕ → ℕ → Manifest → Type 0
NoMoreFiles cells places ranks m =
    (rank j : ℕ) → rank < length m.files → j < 2 ^ 8 → length (rows_of m.files rank) ≤ j → cells (place_of_rank places ranks rank) (file_name m.desc.which ranks rank j) ≡ None

abbrev pub stored_run : Cells → ℕ
stored_run cells = run_number (pair_value (codes "run") (cells 32))

-- the conditions on which jobs are to stop
abbrev pub stored_halt : Cells → Halt
stored_halt cells = halt_in (pair_value (codes "halt") (cells 32))

-- no index record reads, and no mark is told
pub record IsUnindexed (files : List ℕ → Option (List ℕ)) : Type 0 where
  pub entries : (which : DataId) → ReadsEntry (files (entry_name which)) which → ⊥
  pub unmarked : mark_in (pair_value (codes "cur") files) ≡ None

-- a dataset of this site, by a run so far, kept without copies
pub record IsOfSite (shape : Shape) (run : ℕ) (m : Manifest) : Type 0 where
  pub named : IsTrue (is_name m.desc.name)
  pub nodes : m.desc.nodes ≡ shape.nodes
  pub ranks : m.desc.ranks ≡ shape.ranks
  pub files : IsMap (shape.nodes * shape.ranks) m.files
  pub run_is : m.desc.which.run ≤ run
  pub single : is_single m.desc.scheme ≡ true

-- what a run's memory keeps
pub record IsWell (c : RunState) : Type 0 where
  pub places : c.places ≡ numbers_below c.shape.nodes
  pub rise : AscendFrom 1 c.kept
  pub below : AreBelow c.next c.kept
  pub sets : (m : Manifest) → IsKnown c m → IsOfSite c.shape c.run m
  pub opened_run : (m : Manifest) → c.opened ≡ Some m → m.desc.which.run ≡ c.run
  pub opened_below : (m : Manifest) → c.opened ≡ Some m → m.desc.which.id < c.next
  pub opened_last : (m : Manifest) → c.opened ≡ Some m → AreBelow m.desc.which.id c.kept
  pub output : (m : Manifest) → c.opened ≡ Some m → c.phase ≡ phase.Output
  pub ranks : length c.ranks ≡ c.shape.nodes * c.shape.ranks
  pub single : is_single c.config.scheme ≡ true

-- the files of a run that is up, by what reads give; of what is being sealed the records are spoken of elsewhere
pub record FilesHold (c : RunState) (cells : Cells) : Type 0 where
  pub stored : stored_run cells ≡ c.run
  pub halted : stored_halt cells ≡ conditions c.halt
  pub unindexed : IsUnindexed (cells 32)
  pub files : (m : Manifest) → IsKnown c m → FilesStand cells c.places c.shape.ranks m
  pub records : (i : ℕ) (x : Cached) → slice_get c.kept i ≡ Some x → is_being_sealed x.mark ≡ false → RecordsStand cells c.places x.manifest
  pub others : NoOtherRecords (IsKnown c) cells c.places
  pub future : NoFutureFiles cells c.run c.next
  pub fresh : (m : Manifest) → c.opened ≡ Some m → NoMoreFiles cells c.places c.shape.ranks m

-- one file is another, and no other file
pub record ChangesFile (place : ℕ) (name : List ℕ) (old new : Cells) : Type 0 where
  pub others : (p : ℕ) (q : List ℕ) → q ≢ name → new p q ≡ old p q
  pub elsewhere : (p : ℕ) (q : List ℕ) → p ≢ place → new p q ≡ old p q
