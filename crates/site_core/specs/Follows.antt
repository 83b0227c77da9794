-- A site's history is a run of the machine to a state for which its memory and its devices stand.
use Rattle.std.specs.Prelude.{◌≡◌, ◌⊎◌, ◌≤◌, ◌+◌, ℕ, true, false, List, [], ◌∷◌, ◌++◌, length, map, slice_get, slice_set, Option, Some, None, Bool}
use Rattle.scr_base.specs.declared.actor.Actor.{Actor}
use Rattle.scr_base.specs.declared.actor.Actor.TheVariants.{Rank, Encoder}
use Rattle.scr_base.specs.declared.answers.Phase.{Phase}
use Rattle.scr_base.specs.declared.answers.Phase.TheVariants.{Output}
use Rattle.scr_base.specs.declared.answers.Reply.{Reply}
use Rattle.scr_base.specs.declared.content.Step.{Step}
use Rattle.scr_base.specs.declared.shape.DataId.{DataId}
use Rattle.node_device.specs.DeviceState.{DeviceState, IsSound, used_of}
use Rattle.node_device.specs.Rack.{states_of}
use Rattle.ckpt_model.specs.Machine.{Machine, Setup}
use Rattle.ckpt_model.specs.Runs.{StepsTo}
use Rattle.model_proper.specs.Fair.{IsFair}
use Rattle.ckpt_model.specs.declared.event.Event.{Event}
use Rattle.ckpt_model.specs.declared.event.Event.TheVariants as event
use Rattle.ckpt_model.specs.declared.event.Kind.{Kind}
use Rattle.ckpt_model.specs.declared.event.Kind.TheVariants as kinds
use Rattle.round_core.specs.declared.seat.Seat.{Seat}
use Rattle.scr_base.specs.declared.answers.Refusal.{Refusal}
use Rattle.scr_base.specs.declared.answers.Reply.TheVariants as replies
use Rattle.ckpt_model.specs.Answers.{is_fault}
use Rattle.round_core.specs.Seats.{owed, stepped}
use Rattle.site_core.specs.declared.site.Site.{Site}
use Rattle.site_state.specs.declared.run_state.RunState.{RunState}
use Rattle.site_state.specs.declared.cache.Manifest.{Manifest}
use Rattle.site_state.specs.declared.run_state.SaveStep.{SaveStep}
use Rattle.scr_base.specs.declared.answers.Refusal.TheVariants as refusal
use Rattle.ckpt_model.specs.declared.event.StopCause.{StopCause}
use Rattle.ckpt_model.specs.declared.event.StopCause.TheVariants as stops
use Rattle.site_state.specs.declared.run_state.RunStage.{RunStage}
use Rattle.site_state.specs.declared.run_state.RunStage.TheVariants.{Over, Dropping, Dropped}
use Rattle.site_state.specs.declared.turn.Turn.{Turn}
use Rattle.site_state.specs.declared.turn.Turn.TheVariants as turn
use Rattle.site_state.specs.Waiting.{is_over}
use Rattle.site_calls.specs.Causes.{IsFault, IsFull, IsCalm}
use Rattle.site_calls.specs.Writes.{IsNoWrite, PassesOn}
use Rattle.site_core.specs.Writes.{MakesWrite, MayWrite}
use Rattle.site_state.specs.Shown.{Contents, running, setup_of, served, decided}
use Rattle.site_calls.specs.Calls.{TellsAlike, Tells as AllTell}
use Rattle.site_core.specs.Stored.{cells_of, contents_of}
use Rattle.site_core.specs.Holds.{Leads, IsSaving}
use Rattle.site_state.specs.declared.run_state.RunStage.TheVariants as stage
use Rattle.site_state.specs.declared.run_state.SaveStep.TheVariants as work

-- this holds of each event
abbrev pub Each : (Event → Type 0) → List Event → Type 0
Each p [] = Unit {0}
Each p (e ∷ events) = p e × Each p events

-- the history leads from this state to one for which the site stands
abbrev pub Follows : {D : Type 0} → (D → DeviceState) → Machine → Site D → Type 0
Follows state first site = Leads first site.core site.programs (states_of state site.bay) site.history.events

-- what each move counts on: devices are sound, and the state that the history leads from is fair
pub record IsBased {D : Type 0} (state : D → DeviceState) (s : Setup) (first : Machine) : Type 0 where
  pub sound : (d : D) → IsSound (state d)
  pub fair : IsFair s first

-- where the devices tell what they hold: from whatever state the history led, it still does
abbrev pub Keeps : {D : Type 0} → (D → DeviceState) → Site D → Site D → Type 0
Keeps state old new = AllTell (states_of state old.bay) → (first : Machine) → IsBased state (setup_of old.core) first → Follows state first old → Follows state first new

-- The site is a run from this state: its devices tell what they hold, and from that state, which is fair, the history leads to one for which
-- the site stands.
pub record IsRunFrom {D : Type 0} (state : D → DeviceState) (first : Machine) (site : Site D) : Type 0 where
  pub tells : AllTell (states_of state site.bay)
  pub fair : IsFair (setup_of site.core) first
  pub leads : Follows state first site

-- from whatever state the site was a run, it still is
abbrev pub KeepsRun : {D : Type 0} → (D → DeviceState) → Site D → Site D → Type 0
KeepsRun state old new = (first : Machine) → IsRunFrom state first old → IsRunFrom state first new

-- After want of memory the run's memory, its programs, what was told and the number of moves are as before, and each device is as it was.
pub record IsAsBefore {D : Type 0} (state : D → DeviceState) (old new : Site D) : Type 0 where
  pub core : new.core ≡ old.core
  pub programs : new.programs ≡ old.programs
  pub events : new.history.events ≡ old.history.events
  pub moves : new.moves ≡ old.moves
  pub devices : states_of state new.bay ≡ states_of state old.bay

-- the run is over
abbrev pub HasStopped : {D : Type 0} → Site D → Type 0
HasStopped site = is_over site.core.stage ≡ true

-- ## What a turn tells

-- the end of a run that ranks bring
abbrev pub IsRanksEnd : StopCause → Type 0
IsRanksEnd stops.Ended = Unit {0}
IsRanksEnd _ = ⊥

-- a turn of this rank may tell the event
abbrev pub IsOfRank : ℕ → Event → Type 0
IsOfRank r (event.Call rank number call) = rank ≡ r
IsOfRank r (event.Reply rank number answer) = rank ≡ r
IsOfRank r (event.Local rank number call answer) = rank ≡ r
IsOfRank r (event.Decided kind answer) = Unit {0}
IsOfRank r (event.Stop cause) = IsRanksEnd cause
IsOfRank r _ = ⊥

-- it is no rank's own: the turn of any rank may tell it
abbrev pub IsOfRound : Event → Type 0
IsOfRound (event.Decided kind answer) = Unit {0}
IsOfRound (event.Stop cause) = IsRanksEnd cause
IsOfRound _ = ⊥

-- an end of a run that no rank brings
abbrev pub IsWorkersEnd : StopCause → Type 0
IsWorkersEnd (stops.Device node count) = Unit {0}
IsWorkersEnd (stops.Full node used capacity) = Unit {0}
IsWorkersEnd stops.Runs = Unit {0}
IsWorkersEnd _ = ⊥

-- the turn of recoverer, encoder, flusher or evictor may tell the event
abbrev pub IsOfWorker : Event → Type 0
IsOfWorker (event.Call rank number call) = ⊥
IsOfWorker (event.Reply rank number answer) = ⊥
IsOfWorker (event.Local rank number call answer) = ⊥
IsOfWorker (event.Decided kind answer) = ⊥
IsOfWorker (event.Time now) = ⊥
IsOfWorker (event.GivenUp which cause) = ⊥
IsOfWorker (event.Stop cause) = IsWorkersEnd cause
IsOfWorker (event.Scavenged answer) = ⊥
IsOfWorker (event.IndexCommand note) = ⊥
IsOfWorker (event.HaltSet word answer) = ⊥
IsOfWorker _ = Unit {0}

-- the actor's turn may tell the event
abbrev pub IsOf : Actor → Event → Type 0
IsOf (Rank rank) e = IsOfRank rank e
IsOf _ e = IsOfWorker e

-- a refusal by a device has its cause in this move, which may make these writes
abbrev pub IsRefusedFor : (ℕ → List ℕ → ℕ → ℕ → Type 0) → (ℕ → DeviceState) → (ℕ → DeviceState) → Reply → Type 0
IsRefusedFor may old new (replies.Refused (refusal.Device node count)) = IsFault old new node count
IsRefusedFor may old new (replies.Refused (refusal.Full node used capacity)) = IsFull may old new node used capacity
IsRefusedFor may old new _ = Unit {0}

-- a refusal by a device is the one that the round carries
abbrev pub IsCarried : Option Refusal → Reply → Type 0
IsCarried carried (replies.Refused (refusal.Device node count)) = carried ≡ Some (refusal.Device node count)
IsCarried carried (replies.Refused (refusal.Full node used capacity)) = carried ≡ Some (refusal.Full node used capacity)
IsCarried carried _ = Unit {0}

-- an end by a device has its cause in this move
abbrev pub IsEndedFor : (ℕ → List ℕ → ℕ → ℕ → Type 0) → (ℕ → DeviceState) → (ℕ → DeviceState) → StopCause → Type 0
IsEndedFor may old new (stops.Device node count) = IsFault old new node count
IsEndedFor may old new (stops.Full node used capacity) = IsFull may old new node used capacity
IsEndedFor may old new _ = Unit {0}

-- what the event says of devices has its cause
abbrev pub IsCaused : (ℕ → List ℕ → ℕ → ℕ → Type 0) → (ℕ → DeviceState) → (ℕ → DeviceState) → Option Refusal → Event → Type 0
IsCaused may old new carried (event.Local rank number call answer) = IsRefusedFor may old new answer
IsCaused may old new carried (event.Decided kind answer) = IsCarried carried answer
IsCaused may old new carried (event.Stop cause) = IsEndedFor may old new cause
IsCaused may old new carried _ = Unit {0}

-- the refusal that a round carries while its dataset is being removed
abbrev pub carried_at : RunStage → Option Refusal → Option Refusal
carried_at (Dropping drop node) refusal = refusal
carried_at Dropped refusal = refusal
carried_at _ refusal = None

abbrev pub carried : RunState → Option Refusal
carried c = carried_at c.stage c.refusal

-- at most one event was told, one of these, and it has its cause in a move that may make these writes
pub record Tells {D : Type 0} (who : Event → Type 0) (may : ℕ → List ℕ → ℕ → ℕ → Type 0) (state : D → DeviceState) (old new : Site D) : Type 0 where
  pub told : List Event
  pub few : length told ≤ 1
  pub is : new.history.events ≡ old.history.events ++ told
  pub own : Each who told
  pub caused : Each (IsCaused may (states_of state old.bay) (states_of state new.bay) (carried old.core)) told

-- what this actor may tell, for its own writes
abbrev pub TellsBy : {D : Type 0} → Actor → (D → DeviceState) → Site D → Site D → Type 0
TellsBy who state old new = Tells (IsOf who) (MayWrite who old.programs old.core) state old new

-- what the turn of any rank may tell of its round, which writes nothing
abbrev pub TellsRound : {D : Type 0} → (D → DeviceState) → Site D → Site D → Type 0
TellsRound state old new = Tells IsOfRound IsNoWrite state old new

-- ## What becomes of faults

-- the event tells of this fault
abbrev pub IsOfFault : ℕ → ℕ → Event → Type 0
IsOfFault node count (event.Local rank number call answer) = answer ≡ replies.Refused (refusal.Device node count)
IsOfFault node count (event.Stop cause) = cause ≡ stops.Device node count
IsOfFault node count _ = ⊥

-- a device's count of faults rose, no other's changed, and the one event of the turn tells it
pub record TellsFault (old new : ℕ → DeviceState) (before after : List Event) : Type 0 where
  pub node : ℕ
  pub count : ℕ
  pub fault : IsFault old new node count
  pub told : Event
  pub is : after ≡ before ++ told ∷ []
  pub tells : IsOfFault node count told

-- a round carries no refusal that it didn't carry before
abbrev pub CarriesNoMore : RunState → RunState → Type 0
CarriesNoMore old new = (refusal : Refusal) → carried new ≡ Some refusal → carried old ≡ Some refusal

-- no count of faults changed but one that the turn tells, and no round comes to carry a refusal
pub record TellsFaults {D : Type 0} (state : D → DeviceState) (old new : Site D) : Type 0 where
  pub faults : IsCalm (states_of state old.bay) (states_of state new.bay) ⊎ TellsFault (states_of state old.bay) (states_of state new.bay) old.history.events new.history.events
  pub carries : CarriesNoMore old.core new.core

-- a round that carried none comes to carry a refusal by a device, which has its cause in this turn and isn't told yet
pub record TakesUp {D : Type 0} (state : D → DeviceState) (old new : Site D) : Type 0 where
  pub refusal : Refusal
  pub none : carried old.core ≡ None
  pub now : carried new.core ≡ Some refusal
  pub of_device : is_fault (replies.Refused refusal) ≡ true
  pub untold : new.history.events ≡ old.history.events
  pub cause : IsRefusedFor (MayWrite Encoder old.programs old.core) (states_of state old.bay) (states_of state new.bay) (replies.Refused refusal)

-- each change of a count of faults is told or carried
abbrev pub TellsOrCarries : {D : Type 0} → (D → DeviceState) → Site D → Site D → Type 0
TellsOrCarries state old new = TellsFaults state old new ⊎ TakesUp state old new

-- the encoder alone lets a round carry one
abbrev pub AccountsBy : {D : Type 0} → Actor → (D → DeviceState) → Site D → Site D → Type 0
AccountsBy Encoder state old new = TellsOrCarries state old new
AccountsBy _ state old new = TellsFaults state old new

-- ## Where a device refuses a round, and where it ends the run

-- until the first gate `whole` is to be opened, a device that refuses the encoder's change refuses the round
abbrev pub may_refuse : RunStage → Bool
may_refuse stage.Serving = true
may_refuse (stage.Saving work.Record node) = true
may_refuse (stage.Saving work.RecordSync node) = true
may_refuse _ = false

-- until then no run is ended, and from then on no round comes to carry a refusal
pub record IsPlaced (old new : RunState) : Type 0 where
  pub goes_on : may_refuse old.stage ≡ true → is_over new.stage ≡ false
  pub late : may_refuse old.stage ≡ false → CarriesNoMore old new

-- so it is in the encoder's turn
abbrev pub PlacesBy : Actor → RunState → RunState → Type 0
PlacesBy Encoder old new = IsPlaced old new
PlacesBy _ old new = Unit {0}

-- ## What becomes of full devices

-- the event tells that the device is full
abbrev pub IsOfFull : ℕ → ℕ → ℕ → Event → Type 0
IsOfFull node used capacity (event.Local rank number call answer) = answer ≡ replies.Refused (refusal.Full node used capacity)
IsOfFull node used capacity (event.Stop cause) = cause ≡ stops.Full node used capacity
IsOfFull node used capacity _ = ⊥

-- the one event of the turn is such a one, or the round comes to carry the refusal
abbrev pub TellsOf : {D : Type 0} → Site D → Site D → (Event → Type 0) → Refusal → Type 0
TellsOf old new is refusal = ((told : Event) × (new.history.events ≡ old.history.events ++ told ∷ []) × is told) ⊎ ((carried old.core ≡ None) × (carried new.core ≡ Some refusal))

-- Where a write that the turn makes would pass its device's capacity, the turn tells that or the round comes to carry it; or so it
-- is with a fault, which comes first.
abbrev pub TellsEachFull : {D : Type 0} → Actor → (D → DeviceState) → Site D → Site D → Type 0
TellsEachFull who state old new =
    (place at count : ℕ) (name : List ℕ) → MakesWrite who old.programs old.core place name at count → PassesOn (states_of state old.bay) place name at count
    → let used = used_of (states_of state old.bay place) in
    let capacity = (states_of state old.bay place).capacity in
    TellsOf old new (IsOfFull place used capacity) (refusal.Full place used capacity)
    ⊎ ((node : ℕ) × (faults : ℕ) × TellsOf old new (IsOfFault node faults) (refusal.Device node faults))

-- a turn that didn't move left all as it was
abbrev pub Stays : {D : Type 0} → Turn → Site D → Site D → Type 0
Stays turn.Moved old new = Unit {0}
Stays (turn.NotYet why) old new = new ≡ old
Stays turn.Ended old new = new ≡ old

-- a turn that moved is counted, and no other
abbrev pub Counts : Turn → ℕ → ℕ → Type 0
Counts turn.Moved old new = new ≡ old + 1
Counts (turn.NotYet why) old new = new ≡ old
Counts turn.Ended old new = new ≡ old

-- the round was told the time, and nothing else changed
pub record IsTold {D : Type 0} (now : ℕ) (old new : Site D) : Type 0 where
  pub events : new.history.events ≡ old.history.events ++ event.Time now ∷ []
  pub core : new.core ≡ record old.core { reading = Some now }
  pub programs : new.programs ≡ old.programs
  pub bay : new.bay ≡ old.bay
  pub moves : new.moves ≡ old.moves + 1

-- a run that wasn't over was ended from outside, and no device was touched
pub record IsHalted {D : Type 0} (old new : Site D) : Type 0 where
  pub events : new.history.events ≡ old.history.events ++ event.Stop stops.Script ∷ []
  pub core : new.core ≡ record old.core { stage = Over }
  pub programs : new.programs ≡ old.programs
  pub bay : new.bay ≡ old.bay
  pub moves : new.moves ≡ old.moves

-- the run is the same one, room for its end stays, and its devices tell what they told
pub record IsSameRun {D : Type 0} (state : D → DeviceState) (old new : Site D) : Type 0 where
  pub shape : new.core.shape ≡ old.core.shape
  pub config : new.core.config ≡ old.core.config
  pub places : new.core.places ≡ old.core.places
  pub programs : new.programs ≡ old.programs
  pub ranks : length new.core.ranks ≡ length old.core.ranks
  pub room : 1 ≤ old.history.spare → 1 ≤ new.history.spare
  pub tells : TellsAlike (states_of state old.bay) (states_of state new.bay)

-- ## What becomes of a refusal that a round carries

-- nothing was told, and the round carries the refusal still
pub record CarriesStill (refusal : Refusal) (new : RunState) (before after : List Event) : Type 0 where
  pub carries : carried new ≡ Some refusal
  pub told : after ≡ before

-- the round was decided by the refusal, which was the one thing told, and none is carried any more
pub record DecidesBy (refusal : Refusal) (new : RunState) (before after : List Event) : Type 0 where
  pub told : after ≡ before ++ event.Decided kinds.Complete (replies.Refused refusal) ∷ []
  pub none : carried new ≡ None

-- what becomes of a refusal that a round carries: it stays, or the round is decided by it, or the run is over
abbrev pub BecomesOf : Refusal → RunState → List Event → List Event → Type 0
BecomesOf refusal new before after = CarriesStill refusal new before after ⊎ (DecidesBy refusal new before after ⊎ (is_over new.stage ≡ true))

-- the refusal that a round carries stays until the round is decided by it, or the run is over
abbrev pub KeepsCarried : {D : Type 0} → Site D → Site D → Type 0
KeepsCarried old new = (refusal : Refusal) → carried old.core ≡ Some refusal → BecomesOf refusal new.core old.history.events new.history.events

-- ## What a move may do

-- the round may be decided so: where the site stands for a state, that is a step of the machine, and a dataset stays open in the phase Output alone
abbrev pub MayDecide : {D : Type 0} → (D → DeviceState) → Site D → Kind → Reply → Phase → Option DataId → ℕ → Type 0
MayDecide state site kind answer phase offer needs =
    (first : Machine) → Follows state first site
    → ((m : Manifest) → site.core.opened ≡ Some m → phase ≡ Output)
    × ((bytes : Contents) → StepsTo (setup_of site.core) (running bytes site.core) (event.Decided kind answer) (running bytes (decided site.core phase offer needs (map (owed answer) site.core.ranks))))

-- a rank's step may be told so, with no file changed: where the site stands for a state, that is a step of the machine
abbrev pub MayTell : {D : Type 0} → (D → DeviceState) → Site D → ℕ → Step → Reply → Type 0
MayTell state site rank call answer =
    AllTell (states_of state site.bay) → (first : Machine) → Follows state first site → (seat : Seat) → slice_get site.core.ranks rank ≡ Some seat
    → StepsTo (setup_of site.core) (running (contents_of (cells_of (states_of state site.bay)) site.core) site.core) (event.Local rank (seat.number + 1) call answer)
    (running (contents_of (cells_of (states_of state site.bay)) site.core) (served site.core site.core.phase site.core.offer (slice_set site.core.ranks rank (stepped seat))))

-- a dataset is being saved, or is about to be, and this comes next on this node
abbrev pub IsSavingAt : {D : Type 0} → (D → DeviceState) → Site D → SaveStep → ℕ → Type 0
IsSavingAt state site w node = (first : Machine) → Follows state first site → (m : Manifest) × IsSaving first site.core site.programs (states_of state site.bay) site.history.events w node m
