-- What devices stand for between two runs, and what holds between two moves of a run.
use Rattle.std.specs.Prelude.{◌≡◌, ◌≢◌, ◌⊎◌, ◌<◌, ◌≤◌, ◌+◌, ◌*◌, ◌^◌, nat_lt, nat_le, not, ◌==◌, ℕ, Bool, true, false, IsTrue, List, [], ◌∷◌, ◌++◌, map, replicate, Option, None, Some, slice_get, codes}
use Rattle.std.specs.List.{list_all, list_any}
use Rattle.halt_file.specs.Conditions.{conditions}
use Rattle.scr_base.specs.Sets.{numbers_below}
use Rattle.scr_base.specs.declared.answers.Phase.TheVariants as phase
use Rattle.scr_base.specs.declared.content.Step.{Step}
use Rattle.node_device.specs.File.{IsAtRest}
use Rattle.node_device.specs.DeviceState.{DeviceState}
use Rattle.node_device.specs.Calls.{Crashes}
use Rattle.gated_record.specs.PairStages.{IsPairStage, PairLeaves, IsOldOrWanted}
use Rattle.gated_record.specs.declared.pair.PairValue.{PairValue}
use Rattle.scr_base.specs.declared.shape.DataId.{DataId}
use Rattle.ckpt_model.specs.Dataset.{Dataset}
use Rattle.ckpt_model.specs.declared.event.Event.TheVariants as event
use Rattle.ckpt_model.specs.declared.event.StopCause.{StopCause}
use Rattle.ckpt_model.specs.declared.event.StopCause.TheVariants as stops
use Rattle.site_calls.specs.Calls.{Tells}
use Rattle.site_core.specs.Left.{LeavesSaved, NoneSealed, is_sealing_work}
use Rattle.site_calls.specs.Numbers.{IsNumberFile}
use Rattle.site_state.specs.declared.run_state.DropStep.{DropStep}
use Rattle.site_state.specs.declared.run_state.DropStep.TheVariants as drop
use Rattle.member_store.specs.Calls.{IsDropStage}
use Rattle.member_store.specs.Names.{record_name, IsPlace, IsNameOf}
use Rattle.ckpt_model.specs.Machine.{Machine, Setup, Stage as Place}
use Rattle.ckpt_model.specs.Legal.{AreOfPrograms, begins_run, is_stop}
use Rattle.ckpt_model.specs.Runs.{RunsTo}
use Rattle.ckpt_model.specs.Stops.{Choice, may_choose, after_stop}
use Rattle.ckpt_model.specs.declared.event.Event.{Event}
use Rattle.round_core.specs.Seats.{fresh_seat}
use Rattle.site_stands.specs.Described.{is_single}
use Rattle.site_stands.specs.Site.{IsSafeToStop, SiteStands}
use Rattle.site_state.specs.declared.cache.Cached.{Cached}
use Rattle.site_state.specs.declared.cache.Manifest.{Manifest}
use Rattle.site_state.specs.declared.cache.Mark.TheVariants as mark
use Rattle.site_state.specs.declared.run_state.RunState.{RunState}
use Rattle.site_state.specs.declared.run_state.RunStage.{RunStage}
use Rattle.site_state.specs.declared.run_state.RunStage.TheVariants as stage
use Rattle.site_state.specs.declared.run_state.SaveStep.{SaveStep}
use Rattle.site_state.specs.declared.run_state.SaveStep.TheVariants as work
use Rattle.site_state.specs.Shown.{running, begun, setup_of, kept_of, mends}
use Rattle.site_state.specs.Choosing.{AscendFrom, seals, is_being_sealed}
use Rattle.site_calls.specs.Numbers.{run_number}
use Rattle.site_core.specs.Stored.{IsKnown, IsAmong, Cells, cells_of, contents_of, contents_in, file_name, FilesStand, RecordsStand, RecordIs, NoOtherRecords, NoFutureFiles, IsOfSite, IsUnindexed, IsWell, FilesHold, stored_run, stored_halt}
use Rattle.site_state.specs.Asked.{IsSaveRound, IsDropFor}

-- ## Between two runs

-- the dataset of this manifest is among these
abbrev pub IsOneOf : List Manifest → Manifest → Type 0
IsOneOf sets m = (i : ℕ) × (slice_get sets i ≡ Some m)

-- a dataset in cache, as a run leaves it
abbrev pub settled_set : Manifest → Cached
settled_set m = record { manifest = m; mark = mark.Settled }

-- the files of a site between two runs: these datasets stand, whole and sealed, and no other record is there
pub record StoreHolds (s : Setup) (cells : Cells) (run : ℕ) (sets : List Manifest) : Type 0 where
  pub stored : stored_run cells ≡ run
  pub rise : AscendFrom 1 (map settled_set sets)
  pub sets_are : (m : Manifest) → IsOneOf sets m → IsOfSite s.shape run m
  pub files : (m : Manifest) → IsOneOf sets m → FilesStand cells (numbers_below s.shape.nodes) s.shape.ranks m
  pub records : (m : Manifest) → IsOneOf sets m → RecordsStand cells (numbers_below s.shape.nodes) m
  pub others : NoOtherRecords (IsOneOf sets) cells (numbers_below s.shape.nodes)
  pub future : NoFutureFiles cells (run + 1) 0

-- nothing is pending on the nodes and the prefix
abbrev pub IsQuiet : (ℕ → DeviceState) → Type 0
IsQuiet states = (p : ℕ) (q : List ℕ) → p ≤ 32 → IsAtRest ((states p).file q)

-- What a run can begin over today, beside that the devices stand for the state: its datasets are kept without copies and stand whole and
-- sealed, each node in its place; nothing is indexed or marked; and no other record is there, on any device of the bay.
pub record CanBegin (s : Setup) (states : ℕ → DeviceState) (m : Machine) : Type 0 where
  pub single : is_single s.config.scheme ≡ true
  pub sets : List Manifest
  pub quiet : IsQuiet states
  pub store : StoreHolds s (cells_of states) m.run sets
  pub between : m.stage ≡ Place.Between
  pub kept : m.kept ≡ map (kept_of s (contents_in (cells_of states) (numbers_below s.shape.nodes) s.shape.ranks) (numbers_below s.shape.nodes)) (map settled_set sets)
  pub index : m.index ≡ []
  pub halt : m.halt ≡ stored_halt (cells_of states)
  pub mark_is : m.mark ≡ None
  pub unindexed : IsUnindexed (cells_of states 32)

-- ## Within a run

-- no call was made in this run
pub record IsFresh (c : RunState) : Type 0 where
  pub single : is_single c.config.scheme ≡ true
  pub places : c.places ≡ numbers_below c.shape.nodes
  pub phase_is : c.phase ≡ phase.Idle
  pub offer : c.offer ≡ None
  pub opened : c.opened ≡ None
  pub ranks : c.ranks ≡ replicate (c.shape.nodes * c.shape.ranks) fresh_seat
  pub settled : c.settled ≡ 0
  pub needs : c.needs ≡ 0
  pub reading : c.reading ≡ None

-- nothing was done
pub record IsBegun (c : RunState) (states : ℕ → DeviceState) (m : Machine) : Type 0 where
  pub fresh : IsFresh c
  pub begins : CanBegin (setup_of c) states m

-- the number of the run is on its way; all else is as it was
pub record IsStoring (c : RunState) (states : ℕ → DeviceState) (m : Machine) : Type 0 where
  pub fresh : IsFresh c
  pub sets : List Manifest
  pub old : Option PairValue
  pub old_is : run_number old ≡ m.run
  pub want : c.storing.want ≡ record { version = c.run; body = [] }
  pub way : IsPairStage (codes "run") old c.storing.want (states 32) c.storing.changes
  pub leaves : PairLeaves (codes "run") (states 32) (IsOldOrWanted old c.storing.want)
  pub quiet : (p : ℕ) (q : List ℕ) → p ≤ 32 → (p ≡ 32 → IsNumberFile q → ⊥) → IsAtRest ((states p).file q)
  pub rise : AscendFrom 1 (map settled_set sets)
  pub sets_are : (x : Manifest) → IsOneOf sets x → IsOfSite c.shape m.run x
  pub files : (x : Manifest) → IsOneOf sets x → FilesStand (cells_of states) c.places c.shape.ranks x
  pub records : (x : Manifest) → IsOneOf sets x → RecordsStand (cells_of states) c.places x
  pub others : NoOtherRecords (IsOneOf sets) (cells_of states) c.places
  pub future : NoFutureFiles (cells_of states) (m.run + 1) 0
  pub between : m.stage ≡ Place.Between
  pub kept : m.kept ≡ map (kept_of (setup_of c) (contents_of (cells_of states) c) c.places) (map settled_set sets)
  pub index : m.index ≡ []
  pub halt : m.halt ≡ conditions c.halt
  pub halted : stored_halt (cells_of states) ≡ conditions c.halt
  pub unindexed : IsUnindexed (cells_of states 32)
  pub mark_is : m.mark ≡ None
  pub run : c.run ≡ m.run + 1
  pub fits : c.run < 2 ^ 32

-- the number is stored
pub record IsLooking (c : RunState) (states : ℕ → DeviceState) (m : Machine) : Type 0 where
  pub fresh : IsFresh c
  pub sets : List Manifest
  pub next : ℕ
  pub quiet : IsQuiet states
  pub store : StoreHolds (setup_of c) (cells_of states) c.run sets
  pub halted : stored_halt (cells_of states) ≡ conditions c.halt
  pub unindexed : IsUnindexed (cells_of states 32)
  pub runs : (x : Manifest) → IsOneOf sets x → x.desc.which.run < c.run
  pub future : NoFutureFiles (cells_of states) c.run 0
  pub is : m ≡ begun c next (map (kept_of (setup_of c) (contents_of (cells_of states) c) c.places) (map settled_set sets))

-- how far a node's record has come
abbrev pub is_written_at : SaveStep → ℕ → ℕ → Bool
is_written_at work.Record n i = nat_lt i n
is_written_at work.RecordSync n i = nat_le i n
is_written_at _ n i = true

abbrev pub is_whole_at : SaveStep → ℕ → ℕ → Bool
is_whole_at work.Record n i = false
is_whole_at work.RecordSync n i = false
is_whole_at work.Whole n i = nat_lt i n
is_whole_at work.WholeSync n i = nat_le i n
is_whole_at _ n i = true

abbrev pub is_sealed_at : SaveStep → ℕ → ℕ → Bool
is_sealed_at work.Sealed n i = nat_lt i n
is_sealed_at work.SealedSync n i = nat_le i n
is_sealed_at _ n i = false

-- what is pending on a node: while records are written the files and the record, then the gate that was turned
abbrev pub is_pending_at : SaveStep → ℕ → ℕ → Bool
is_pending_at work.Record n i = nat_le n i
is_pending_at work.RecordSync n i = nat_le n i
is_pending_at work.Whole n i = false
is_pending_at work.WholeSync n i = i == n
is_pending_at work.Sealed n i = false
is_pending_at work.SealedSync n i = i == n

-- a node's record, or none yet
abbrev pub RecordAt : Bool → Option (List ℕ) → Manifest → ℕ → Bool → Bool → Type 0
RecordAt true o m node whole sealed = RecordIs o m node whole sealed
RecordAt false o m node whole sealed = o ≡ None

-- the records of the dataset that is being saved
pub record SavesAt (w : SaveStep) (n : ℕ) (c : RunState) (m : Manifest) (states : ℕ → DeviceState) : Type 0 where
  pub round : IsSaveRound c
  pub below : n < c.shape.nodes
  pub open_yet : is_sealing_work w ≡ false → c.opened ≡ Some m
  pub apart : (i : ℕ) (x : Cached) → slice_get c.kept i ≡ Some x → is_being_sealed x.mark ≡ false → x.manifest.desc.which ≢ m.desc.which
  pub one : (i : ℕ) (x : Cached) → slice_get c.kept i ≡ Some x → is_being_sealed x.mark ≡ true → x.manifest ≡ m
  pub records : (node p : ℕ) → slice_get c.places node ≡ Some p → RecordAt (is_written_at w n node) (((states p).file (record_name m.desc.which node)).now) m node (is_whole_at w n node) (is_sealed_at w n node)
  pub clean : (node p : ℕ) → slice_get c.places node ≡ Some p → is_written_at w n node ≡ false → IsAtRest ((states p).file (record_name m.desc.which node))
  pub quiet : (node p : ℕ) (q : List ℕ) → slice_get c.places node ≡ Some p → is_pending_at w n node ≡ false → IsAtRest ((states p).file q)
  pub leaves : LeavesSaved w n c.places c.opened m states

-- the dataset that is being saved: before its sealing it is the open one, and then the last in cache
abbrev pub IsSaved : SaveStep → ℕ → RunState → Manifest → Type 0
IsSaved w n c m = (c.opened ≡ Some m) ⊎ ((c.opened ≡ None) × ((x : Cached) × (i : ℕ) × (slice_get c.kept i ≡ Some x) × (x.manifest ≡ m) × (x.mark ≡ mark.Sealing)))

-- a file of the dataset
abbrev pub IsFileOf : RunState → Manifest → List ℕ → Type 0
IsFileOf c m q = (rank : ℕ) × (j : ℕ) × (rank < 2 ^ 8) × (j < 2 ^ 8) × (q ≡ file_name m.desc.which c.shape.ranks rank j)

-- on a node, the file belongs to what isn't stable yet: a file of the open dataset, or of the one that is being saved, or its record
abbrev pub IsPending : RunStage → RunState → List ℕ → Type 0
IsPending (stage.Saving w n) c q = (m : Manifest) × IsSaved w n c m × (IsFileOf c m q ⊎ ((node : ℕ) × (node < 2 ^ 8) × (q ≡ record_name m.desc.which node)))
IsPending _ c q = (m : Manifest) × (c.opened ≡ Some m) × IsFileOf c m q

-- what the encoder and the recoverer count on
abbrev pub WorkIs : RunStage → RunState → (ℕ → DeviceState) → Type 0
WorkIs stage.Mending c states = (c.opened ≡ None) × (list_any seals c.kept ≡ false)
WorkIs stage.Serving c states = (list_any mends c.kept ≡ false) × (list_any seals c.kept ≡ false)
WorkIs (stage.Saving w n) c states = (m : Manifest) × IsSaved w n c m × SavesAt w n c m states × (list_any mends c.kept ≡ false)
WorkIs _ c states = Unit {0}

-- of the open dataset no record is there while its ranks write
abbrev pub NoRecordYet : RunStage → RunState → Cells → Type 0
NoRecordYet (stage.Saving w n) c cells = Unit {0}
NoRecordYet _ c cells = (m : Manifest) → c.opened ≡ Some m → (p node : ℕ) → p < 32 → IsPlace m.desc.which node → cells p (record_name m.desc.which node) ≡ None

-- recovery has looked
pub record IsUp (c : RunState) (states : ℕ → DeviceState) (m : Machine) : Type 0 where
  pub is : m ≡ running (contents_of (cells_of states) c) c
  pub well : IsWell c
  pub files : FilesHold c (cells_of states)
  pub quiet : (p : ℕ) (q : List ℕ) → p ≤ 32 → (p < c.shape.nodes → IsPending c.stage c q → ⊥) → IsAtRest ((states p).file q)
  pub unrecorded : NoRecordYet c.stage c (cells_of states)
  pub working : WorkIs c.stage c states

-- ## A dataset on its way out

-- a file of one of the dataset's members
abbrev pub IsOfDataset : DataId → List ℕ → Type 0
IsOfDataset which q = (node : ℕ) × (node < 2 ^ 8) × IsNameOf which node q

-- The open dataset is on its way out: on some nodes its record is gone, and on some of these that is stable; a stop leaves no record
-- of it sealed. Of the machine's open dataset nothing is said.
pub record IsLeavingAt (gone settled : ℕ → Bool) (c : RunState) (states : ℕ → DeviceState) (m : Machine) : Type 0 where
  pub set : Manifest
  pub opened : c.opened ≡ Some set
  pub dataset : Dataset
  pub is : m ≡ record (running (contents_of (cells_of states) c) c) { open_dataset = Some dataset }
  pub round : IsDropFor c
  pub well : IsWell c
  pub stored : stored_run (cells_of states) ≡ c.run
  pub halted : stored_halt (cells_of states) ≡ conditions c.halt
  pub unindexed : IsUnindexed (cells_of states 32)
  pub files : (x : Manifest) → IsAmong c.kept x → FilesStand (cells_of states) c.places c.shape.ranks x
  pub records : (i : ℕ) (x : Cached) → slice_get c.kept i ≡ Some x → RecordsStand (cells_of states) c.places x.manifest
  pub others : NoOtherRecords (IsKnown c) (cells_of states) c.places
  pub future : NoFutureFiles (cells_of states) c.run c.next
  pub mended : list_any mends c.kept ≡ false
  pub sealed : list_any seals c.kept ≡ false
  pub unsealed : NoneSealed set.desc.which states
  pub removed : (node p : ℕ) → slice_get c.places node ≡ Some p → gone node ≡ true → cells_of states p (record_name set.desc.which node) ≡ None
  pub quiet : (p : ℕ) (q : List ℕ) → p ≤ 32 → (p < c.shape.nodes → settled p ≡ false → IsOfDataset set.desc.which q → ⊥) → IsAtRest ((states p).file q)

-- the node's files are gone
abbrev pub is_gone_at : DropStep → ℕ → ℕ → Bool
is_gone_at drop.File n node = nat_lt node n
is_gone_at drop.Sync n node = nat_le node n

-- what the evictor counts on
abbrev pub RemovalIs : DropStep → ℕ → RunState → DataId → (ℕ → DeviceState) → Type 0
RemovalIs drop.File n c which states = (c.removal.node ≡ n) × IsDropStage which n (states n) c.removal.changes
RemovalIs drop.Sync n c which states = Unit {0}

-- the files on this node are being removed, and those before it are gone
pub record IsDropping (d : DropStep) (n : ℕ) (c : RunState) (states : ℕ → DeviceState) (m : Machine) : Type 0 where
  pub leaves : IsLeavingAt (is_gone_at d n) (λ node. nat_lt node n) c states m
  pub below : n < c.shape.nodes
  pub which_is : c.removal.which ≡ leaves.set.desc.which
  pub work : RemovalIs d n c leaves.set.desc.which states

-- its files are gone everywhere, and that is stable
abbrev pub IsDropped : RunState → (ℕ → DeviceState) → Machine → Type 0
IsDropped = IsLeavingAt (λ node. true) (λ node. true)

-- what holds at a stage
abbrev pub HoldsAt : RunStage → RunState → (ℕ → DeviceState) → Machine → Type 0
HoldsAt stage.Begun c states m = IsBegun c states m
HoldsAt stage.Storing c states m = IsStoring c states m
HoldsAt stage.Looking c states m = IsLooking c states m
HoldsAt (stage.Dropping d n) c states m = IsDropping d n c states m
HoldsAt stage.Dropped c states m = IsDropped c states m
HoldsAt stage.Over c states m = Unit {0}
HoldsAt _ c states m = IsUp c states m

-- the events so far of a run that has begun and isn't over
pub record IsSoFar (places : List ℕ) (programs : List (List Step)) (events : List Event) : Type 0 where
  pub begin : IsTrue (begins_run places events)
  pub steps : AreOfPrograms programs events
  pub goes_on : IsTrue (list_all (λ e. not (is_stop e)) events)

-- the run came to an end by itself: neither a device ended it, nor somebody from outside
abbrev pub goes_well : StopCause → Bool
goes_well (stops.Device node count) = false
goes_well (stops.Full node used capacity) = false
goes_well stops.Script = false
goes_well _ = true

-- the events are those of the run, as far as it has come
abbrev pub ToldAt : RunStage → List ℕ → List (List Step) → List Event → Type 0
ToldAt stage.Begun places programs events = events ≡ []
ToldAt stage.Storing places programs events = events ≡ []
ToldAt stage.Over places programs events = Unit {0}
ToldAt _ places programs events = IsSoFar places programs events

-- a stop of the devices leaves them so, and they tell what they hold
pub record IsStopOf (states left : ℕ → DeviceState) : Type 0 where
  pub crashes : (p : ℕ) → p ≤ 32 → Crashes (states p) (left p)
  pub tells : Tells left

-- whatever a stop by this cause leaves, a run can begin over it again
abbrev pub LetsBegin : Setup → (ℕ → DeviceState) → StopCause → Machine → Type 0
LetsBegin s states why m = (c : Choice) → IsTrue (may_choose s m why c) → (left : ℕ → DeviceState) → IsStopOf states left → CanBegin s left (after_stop s m c)

-- How a run stands that isn't over: its events lead to a state for which the devices stand, and a stop from outside is safe there.
pub record IsUnderWay (s : Setup) (states : ℕ → DeviceState) (first : Machine) (events : List Event) : Type 0 where
  pub state : Machine
  pub run : RunsTo s first events state
  pub stands : SiteStands s states state
  pub safe : IsSafeToStop s states stops.Script state

-- How a run is closed. Its events lead, by steps of the machine, to a state before its Stop, and a stop by that cause is safe there: whatever
-- it leaves stands for a state after it. Where the run ended by itself, a run can begin over that again.
pub record Closes (s : Setup) (states : ℕ → DeviceState) (first : Machine) (places : List ℕ) (programs : List (List Step)) (events : List Event) : Type 0 where
  pub front : List Event
  pub why : StopCause
  pub is : events ≡ front ++ event.Stop why ∷ []
  pub before : Machine
  pub run : RunsTo s first front before
  pub safe : IsSafeToStop s states why before
  pub well : goes_well why ≡ true → LetsBegin s states why before
  pub begin : IsTrue (begins_run places events)
  pub steps : AreOfPrograms programs events
  pub goes_on : IsTrue (list_all (λ e. not (is_stop e)) front)

-- once it is over
abbrev pub ClosesAt : RunStage → Setup → Machine → List ℕ → List (List Step) → (ℕ → DeviceState) → List Event → Type 0
ClosesAt stage.Over s first places programs states events = Closes s states first places programs events
ClosesAt _ s first places programs states events = Unit {0}

-- the history leads from a state to one for which the run's memory and files stand
pub record Leads (first : Machine) (c : RunState) (programs : List (List Step)) (states : ℕ → DeviceState) (events : List Event) : Type 0 where
  pub state : Machine
  pub run : RunsTo (setup_of c) first events state
  pub holds : HoldsAt c.stage c states state
  pub told : ToldAt c.stage c.places programs events
  pub closes : ClosesAt c.stage (setup_of c) first c.places programs states events

-- what is known of a run while a dataset is being saved
pub record IsSaving (first : Machine) (c : RunState) (programs : List (List Step)) (states : ℕ → DeviceState) (events : List Event) (w : SaveStep) (n : ℕ) (m : Manifest) : Type 0 where
  pub run : RunsTo (setup_of c) first events (running (contents_of (cells_of states) c) c)
  pub so_far : IsSoFar c.places programs events
  pub well : IsWell c
  pub files : FilesHold c (cells_of states)
  pub quiet : (p : ℕ) (q : List ℕ) → p ≤ 32 → (p < c.shape.nodes → IsPending (stage.Saving w n) c q → ⊥) → IsAtRest ((states p).file q)
  pub saved : IsSaved w n c m
  pub saves : SavesAt w n c m states
  pub mended : list_any mends c.kept ≡ false
