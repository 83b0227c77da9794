-- What the moves change of a site's memory.
use Rattle.std.specs.Prelude.{◌≡◌, ◌<◌, ◌≤◌, ◌+◌, ◌*◌, ◌/◌, ◌%◌, ℕ, IsTrue, List, [], ◌∷◌, ◌++◌, map, length, replicate, slice_get, slice_set, find, Option, None, Some, option_map, if◌then◌else◌}
use Rattle.std.specs.List.{list_any}
use Rattle.scr_base.specs.Sets.{numbers_below}
use Rattle.scr_base.specs.Words.{is_name}
use Rattle.scr_base.specs.declared.shape.DataId.{DataId}
use Rattle.scr_base.specs.declared.shape.Flags.{Flags}
use Rattle.scr_base.specs.declared.shape.Shape.{Shape}
use Rattle.scr_base.specs.declared.shape.Config.{Config}
use Rattle.scr_base.specs.declared.answers.Phase.TheVariants as phase
use Rattle.filemap.specs.Rows.{unrouted}
use Rattle.filemap.specs.Maps.{rows_of}
use Rattle.filemap.specs.declared.rows.FileRow.{FileRow}
use Rattle.member_store.specs.declared.part.Part.TheVariants.{File}
use Rattle.round_core.specs.declared.seat.Seat.{Seat}
use Rattle.round_core.specs.Seats.{fresh_seat}
use Rattle.site_state.specs.declared.cache.Cached.{Cached}
use Rattle.site_state.specs.declared.cache.Manifest.{Manifest}
use Rattle.site_state.specs.declared.cache.Mark.TheVariants as mark
use Rattle.site_state.specs.declared.run_state.RunState.{RunState}
use Rattle.site_state.specs.declared.run_state.RunStage.TheVariants as stage
use Rattle.site_state.specs.declared.run_moves.Spot.{Spot}
use Rattle.scr_base.specs.declared.answers.Refusal.{Refusal}
use Rattle.scr_base.specs.declared.answers.Reply.{Reply}
use Rattle.scr_base.specs.declared.answers.Reply.TheVariants as reply
use Rattle.site_state.specs.declared.run_state.DropStep.TheVariants as drop
use Rattle.site_calls.specs.Removals.{leaving}
use Rattle.site_state.specs.Shown.{mends, settled_if, greatest_id}
use Rattle.site_state.specs.Choosing.{seals, count_one, at_hand}

-- the memory of a run that has made no move
pub record IsNewCore (shape : Shape) (config : Config) (c : RunState) : Type 0 where
  pub shape_is : c.shape ≡ shape
  pub config_is : c.config ≡ config
  pub stage_is : c.stage ≡ stage.Begun
  pub places : c.places ≡ numbers_below shape.nodes
  pub phase_is : c.phase ≡ phase.Idle
  pub offer : c.offer ≡ None
  pub opened : c.opened ≡ None
  pub ranks : c.ranks ≡ replicate (shape.nodes * shape.ranks) fresh_seat
  pub settled : c.settled ≡ 0
  pub needs : c.needs ≡ 0
  pub reading : c.reading ≡ None

-- what doesn't change in a run is the same
pub record IsSameCore (old new : RunState) : Type 0 where
  pub shape : new.shape ≡ old.shape
  pub config : new.config ≡ old.config
  pub places : new.places ≡ old.places
  pub ranks : new.ranks ≡ old.ranks

-- recovery is over once every dataset that was found is looked after
abbrev pub recovered : RunState → RunState
recovered c = if list_any mends c.kept then c else record c { stage = stage.Serving }

-- a dataset of this run that has no files
pub record IsOpened (c : RunState) (name : List ℕ) (flags : Flags) (m : Manifest) : Type 0 where
  pub which : m.desc.which ≡ record { id = c.next; run = c.run }
  pub name_is : m.desc.name ≡ name
  pub named : IsTrue (is_name m.desc.name)
  pub flags_are : m.desc.flags ≡ flags
  pub scheme : m.desc.scheme ≡ c.config.scheme
  pub size : m.desc.size ≡ c.config.size
  pub files : m.files ≡ replicate (c.shape.nodes * c.shape.ranks) []

-- the dataset has the site's shape
pub record HasShape (c : RunState) (m : Manifest) : Type 0 where
  pub nodes : m.desc.nodes ≡ c.shape.nodes
  pub ranks : m.desc.ranks ≡ c.shape.ranks

-- the manifest with a rank's rows
abbrev pub with_rows : Manifest → ℕ → List FileRow → Manifest
with_rows m rank rows = record m { files = slice_set m.files rank rows }

-- the open dataset without the last file of a rank
abbrev pub unrouted_core : RunState → ℕ → RunState
unrouted_core c rank = record c { opened = option_map (λ m. with_rows m rank (unrouted (rows_of m.files rank))) c.opened }

-- the dataset has the file of a rank, which may be so long
pub record CanExtend (m : Manifest) (rank file len : ℕ) : Type 0 where
  pub rank_in : rank < length m.files
  pub file_in : file < length (rows_of m.files rank)
  pub short : len ≤ 1048576

-- the run with this dataset open, and its ranks so
abbrev pub with_open : RunState → Manifest → List Seat → RunState
with_open c m ranks = record c { opened = Some m; ranks = ranks }

-- where a rank's file of this number stands, of the dataset that the ranks' own steps work on
pub record IsSpot (c : RunState) (rank file : ℕ) (spot : Spot) : Type 0 where
  pub set : Manifest
  pub hand : at_hand c ≡ Some set
  pub which : spot.which ≡ set.desc.which
  pub node : spot.node ≡ rank / c.shape.ranks
  pub home : slice_get c.places (rank / c.shape.ranks) ≡ Some spot.place
  pub low : spot.place < 32
  pub part : spot.part ≡ File (rank % c.shape.ranks) file

-- the identity of the dataset that is being saved
abbrev pub saved_in : Option Manifest → List Cached → Option DataId
saved_in None sets = option_map (λ set. set.manifest.desc.which) (find seals sets)
saved_in (Some m) sets = Some m.desc.which

abbrev pub sealing_one : Manifest → Cached
sealing_one m = record { manifest = m; mark = mark.Sealing }

-- the open dataset is in cache, and is being sealed
abbrev pub sealed_core : RunState → Manifest → RunState
sealed_core c m = record c { opened = None; kept = c.kept ++ sealing_one m ∷ [] }

-- the dataset is settled, and the run serves again
abbrev pub settled_core : RunState → DataId → RunState
settled_core c which = record c { stage = stage.Serving; kept = map (settled_if which) c.kept; settled = c.settled + count_one which c.kept }

-- the files of the open dataset are to be removed
abbrev pub dropping_core : RunState → DataId → Option Refusal → RunState
dropping_core c which refusal = record c { stage = stage.Dropping drop.File 0; removal = leaving which 0; refusal = refusal }

-- those on this node come next
abbrev pub next_drop_core : RunState → ℕ → RunState
next_drop_core c node = record c { stage = stage.Dropping drop.File node; removal = leaving c.removal.which node }

-- the open dataset is gone, and the run serves again
abbrev pub closed_core : RunState → RunState
closed_core c = record c { stage = stage.Serving; opened = None; phase = phase.Idle; refusal = None; reading = None }

-- what the round is answered whose dataset is gone
abbrev pub dropped_answer : Option Refusal → Reply
dropped_answer None = reply.NotKept
dropped_answer (Some refusal) = reply.Refused refusal

-- recovery found these datasets
abbrev pub seen_core : RunState → List Cached → RunState
seen_core c kept = record c { stage = stage.Mending; kept = kept; next = greatest_id kept + 1 }
