-- The machine's state that a run of a site stands for, once recovery has looked.
use Rattle.std.specs.Prelude.{ℕ, ◌+◌, ◌*◌, Bool, true, false, List, [], ◌∷◌, map, fold, max, replicate, Option, None, option_map, if◌then◌else◌}
use Rattle.scr_base.specs.Same.{same_id}
use Rattle.scr_base.specs.declared.answers.Phase.{Phase}
use Rattle.scr_base.specs.declared.answers.Phase.TheVariants as phase
use Rattle.ckpt_model.specs.declared.event.FoundRow.{FoundRow}
use Rattle.halt_file.specs.Conditions.{conditions}
use Rattle.scr_base.specs.declared.shape.DataId.{DataId}
use Rattle.filemap.specs.declared.rows.FileRow.{FileRow}
use Rattle.dataset_desc.specs.declared.desc.Desc.{Desc}
use Rattle.ckpt_model.specs.Dataset.{Dataset, File}
use Rattle.ckpt_model.specs.Machine.{Machine, Setup, Kept, RankState, Stage as Place, Doing as Does, Mark as Marked}
use Rattle.ckpt_model.specs.Steps.{members_at, fresh_rank}
use Rattle.round_core.specs.declared.seat.Seat.{Seat}
use Rattle.round_core.specs.declared.seat.Doing.{Doing}
use Rattle.round_core.specs.declared.seat.Doing.TheVariants as doing
use Rattle.site_state.specs.declared.cache.Cached.{Cached}
use Rattle.site_state.specs.declared.cache.Manifest.{Manifest}
use Rattle.site_state.specs.declared.cache.Mark.{Mark}
use Rattle.site_state.specs.declared.cache.Mark.TheVariants as mark
use Rattle.site_state.specs.declared.run_state.RunState.{RunState}

-- the bytes of each file, by its dataset, rank and number
abbrev pub Contents : Type 0
Contents = DataId → ℕ → ℕ → List ℕ

-- a rank's files, from a number on
abbrev pub rank_files : (ℕ → List ℕ) → ℕ → List FileRow → List File
rank_files bytes j [] = []
rank_files bytes j (row ∷ rows) = record { name = row.name; bytes = bytes j } ∷ rank_files bytes (j + 1) rows

-- the files of all ranks, from a rank on
abbrev pub all_files : (ℕ → ℕ → List ℕ) → ℕ → List (List FileRow) → List (List File)
all_files bytes rank [] = []
all_files bytes rank (rows ∷ more) = rank_files (bytes rank) 0 rows ∷ all_files bytes (rank + 1) more

abbrev pub setup_of : RunState → Setup
setup_of c = record { shape = c.shape; config = c.config }

-- the dataset of this description, with these files
abbrev pub dataset_of : Setup → Contents → Desc → List (List FileRow) → Dataset
dataset_of s bytes desc files = record {
  which = desc.which;
  name = desc.name;
  flags = desc.flags;
  shape = s.shape;
  scheme = desc.scheme;
  size = desc.size;
  files = all_files (bytes desc.which) 0 files;
}

abbrev pub set_of : Setup → Contents → Manifest → Dataset
set_of s bytes m = dataset_of s bytes m.desc m.files

abbrev pub marked : Mark → Marked
marked mark.Mending = Marked.Mending
marked mark.Sealing = Marked.Sealing
marked mark.Settled = Marked.Settled

-- a stop now may leave it or not
abbrev pub is_doubtful : Mark → Bool
is_doubtful mark.Mending = false
is_doubtful mark.Sealing = true
is_doubtful mark.Settled = false

abbrev pub is_to_mend : Mark → Bool
is_to_mend mark.Mending = true
is_to_mend mark.Sealing = false
is_to_mend mark.Settled = false

abbrev pub kept_of : Setup → Contents → List ℕ → Cached → Kept
kept_of s bytes places set = record { dataset = set_of s bytes set.manifest; mark = marked set.mark; members = members_at places; doubt = is_doubtful set.mark }

abbrev pub does : Doing → Does
does doing.Free = Does.Free
does (doing.Waits step) = Does.Waits step
does (doing.Owed reply) = Does.Owed reply

abbrev pub rank_of : Seat → RankState
rank_of seat = record { number = seat.number; ended = seat.ended; doing = does seat.doing }

-- after what it found, where the files hold these bytes
abbrev pub running : Contents → RunState → Machine
running bytes c = record {
  stage = Place.Running;
  run = c.run;
  next = c.next;
  places = c.places;
  phase = c.phase;
  offer = c.offer;
  open_dataset = option_map (set_of (setup_of c) bytes) c.opened;
  kept = map (kept_of (setup_of c) bytes c.places) c.kept;
  index = [];
  flushing = None;
  fetching = None;
  given_up = [];
  needs = c.needs;
  done = c.settled;
  reading = c.reading;
  ranks = map rank_of c.ranks;
  halt = conditions c.halt;
  mark = None;
}

-- the ranks, the phase and the offer are others
abbrev pub served : RunState → Phase → Option DataId → List Seat → RunState
served c p o ranks = record c { phase = p; offer = o; ranks = ranks }

-- a round is decided, the one that so many Need rounds of the run end with; the clock's reading was for that round alone
abbrev pub decided : RunState → Phase → Option DataId → ℕ → List Seat → RunState
decided c p o needs ranks = record c { phase = p; offer = o; needs = needs; reading = None; ranks = ranks }

-- recovery has yet to look after it
abbrev pub mends : Cached → Bool
mends set = is_to_mend set.mark

-- after the run's end
abbrev pub stopped : Contents → RunState → Machine
stopped bytes c = record (running bytes c) { stage = Place.Between; open_dataset = None }

-- the dataset, as far as this
abbrev pub come_to : Mark → Cached → Cached
come_to m set = record set { mark = m }

-- the dataset of this identity is settled, the others as they are
abbrev pub settled_if : DataId → Cached → Cached
settled_if which set = if same_id set.manifest.desc.which which then come_to mark.Settled set else set

-- between the run's event and what it finds
abbrev pub begun : RunState → ℕ → List Kept → Machine
begun c next kept = record {
  stage = Place.Begun;
  run = c.run;
  next = next;
  places = c.places;
  phase = phase.Idle;
  offer = None;
  open_dataset = None;
  kept = kept;
  index = [];
  flushing = None;
  fetching = None;
  given_up = [];
  needs = 0;
  done = 0;
  reading = None;
  ranks = replicate (c.shape.nodes * c.shape.ranks) fresh_rank;
  halt = conditions c.halt;
  mark = None;
}

-- the row of a dataset of which nothing is lost
abbrev pub row_of : Cached → FoundRow
row_of set = record { which = set.manifest.desc.which; lost = [] }

-- the greatest number of a dataset
abbrev pub greatest_id : List Cached → ℕ
greatest_id sets = fold (λ n set. max n set.manifest.desc.which.id) 0 sets
