-- What holds of the devices of a site while a dataset leaves the cache.
use Rattle.std.specs.Prelude.{◌≡◌, ◌<◌, ◌≤◌, ◌==◌, ℕ, zero, suc, Bool, true, false, List, [], ◌∷◌, length, Some, slice_get, nat_lt, if◌then◌else◌, None}
use Rattle.scr_base.specs.declared.shape.DataId.{DataId}
use Rattle.node_device.specs.File.{IsAtRest}
use Rattle.node_device.specs.DeviceState.{DeviceState}
use Rattle.gate_outcomes.specs.Gates.{StaysShut}
use Rattle.member_store.specs.Names.{record_name, IsPlace, IsNameOf}
use Rattle.member_store.specs.Calls.{IsDropStage, HasNoFile}
use Rattle.ckpt_model.specs.declared.event.Event.{Event}
use Rattle.ckpt_model.specs.declared.progress.Progress.{Progress}
use Rattle.ckpt_model.specs.declared.progress.Progress.TheVariants as progress
use Rattle.ckpt_model.specs.Dataset.{Dataset}
use Rattle.ckpt_model.specs.Machine.{Machine, Setup, Kept, Mark}
use Rattle.ckpt_model.specs.Moves.{after}
use Rattle.ckpt_model.specs.Questions.{is_kept, is_indexed}
use Rattle.ckpt_model.specs.Steps.{members_at}
use Rattle.site_calls.specs.Removals.{Leaving}
use Rattle.site_stands.specs.Cells.{physical_nodes}
use Rattle.site_stands.specs.Gate.{Gate, GatesHold}
use Rattle.site_stands.specs.Members.{NoneSealed}
use Rattle.evict_core.specs.declared.closing.Closing.{Closing}
use Rattle.evict_core.specs.declared.closing.Closing.TheVariants as closing
use Rattle.evict_core.specs.declared.set.EvictSet.{EvictSet}
use Rattle.evict_core.specs.declared.stage.EvictStage.{EvictStage}
use Rattle.evict_core.specs.declared.stage.EvictStage.TheVariants as stage
use Rattle.evict_core.specs.Evicting.{Evicting, begins}

-- how far the gates `sealed` have come: those before a node are shut, the node's has come so far, and the others are open
abbrev pub closed_to : ℕ → Gate → ℕ → Gate
closed_to node gate i = if nat_lt i node then Gate.Shut else (if i == node then gate else Gate.Open)

-- the dataset that leaves is this one, of a run so far, on the run's places
pub record IsEvictOf (s : Setup) (m : Machine) (d : Dataset) (base : EvictSet) : Type 0 where
  pub which : base.which ≡ d.which
  pub nodes : base.nodes ≡ s.shape.nodes
  pub places : base.places ≡ m.places
  pub low : (node p : ℕ) → slice_get m.places node ≡ Some p → p < physical_nodes s.shape
  pub named : (node : ℕ) → node < s.shape.nodes → IsPlace d.which node
  pub so_far : d.which.run ≤ m.run

abbrev pub mark_of : Closing → Mark
mark_of closing.Evicting = Mark.Evicting
mark_of closing.Failing = Mark.Failing

-- the dataset as it is kept before the first closing, and as it is kept between the first and the last
abbrev pub settled_at : List ℕ → Dataset → Kept
settled_at places d = record { dataset = d; mark = Mark.Settled; members = members_at places; doubt = false }

abbrev pub going_at : Closing → List ℕ → Dataset → Kept
going_at why places d = record { dataset = d; mark = mark_of why; members = members_at places; doubt = true }

-- the dataset is kept, and so: of its identity there is no other
pub record IsKeptAs (m : Machine) (d : Dataset) (stand : Kept) : Type 0 where
  pub there : is_kept m d.which ≡ true
  pub alone : (i : ℕ) (k : Kept) → slice_get m.kept i ≡ Some k → k.dataset.which ≡ d.which → k ≡ stand

-- of the nodes before this one no stop leaves the gate `sealed` open
abbrev pub ShutTo : (ℕ → DeviceState) → List ℕ → DataId → ℕ → Type 0
ShutTo states places which node = (i p : ℕ) → i < node → slice_get places i ≡ Some p → StaysShut ((states p).file (record_name which i)) 1

-- no file of the member is there, and none can come back
abbrev pub IsCleared : DeviceState → DataId → ℕ → Type 0
IsCleared disk which node = (name : List ℕ) → IsNameOf which node name → ((disk.file name).now ≡ None) × IsAtRest (disk.file name)

abbrev pub ClearedTo : (ℕ → DeviceState) → List ℕ → DataId → ℕ → Type 0
ClearedTo states places which node = (i p : ℕ) → i < node → slice_get places i ≡ Some p → IsCleared (states p) which i

-- it isn't kept, and no stop leaves a record of it sealed; the members of the nodes before this one are cleared away
pub record IsOutOfCache (s : Setup) (states : ℕ → DeviceState) (m : Machine) (d : Dataset) (node : ℕ) : Type 0 where
  pub gone : is_kept m d.which ≡ false
  pub unsealed : NoneSealed s.shape states d.which
  pub shut : ShutTo states m.places d.which (length m.places)
  pub cleared : ClearedTo states m.places d.which node

-- the dataset has come so far
abbrev pub StageHolds : Setup → (ℕ → DeviceState) → Machine → Dataset → Leaving → EvictStage → Type 0
StageHolds s states m d removal (stage.Close why zero) = IsKeptAs m d (settled_at m.places d)
StageHolds s states m d removal (stage.Close why (suc node)) = IsKeptAs m d (going_at why m.places d) × GatesHold s.shape states m.places d (λ i. Gate.Open) (closed_to (suc node) Gate.Open) × ShutTo states m.places d.which (suc node)
StageHolds s states m d removal (stage.CloseSync why node) = IsKeptAs m d (going_at why m.places d) × GatesHold s.shape states m.places d (λ i. Gate.Open) (closed_to node Gate.Closing) × ShutTo states m.places d.which node
StageHolds s states m d removal (stage.Remove node) = IsOutOfCache s states m d node × ((p : ℕ) → slice_get m.places node ≡ Some p → IsDropStage d.which node (states p) removal.changes)
StageHolds s states m d removal (stage.RemoveSync node) = IsOutOfCache s states m d node × ((p : ℕ) → slice_get m.places node ≡ Some p → HasNoFile d.which node (states p))
StageHolds s states m d removal stage.Over = IsOutOfCache s states m d (length m.places)

abbrev pub EvictHolds : Setup → (ℕ → DeviceState) → Machine → Dataset → Evicting → Type 0
EvictHolds s states m d e = StageHolds s states m d e.removal e.stage

-- what a refused write may have made of the machine's state: a stop may leave the first gate `sealed` shut
abbrev pub made_at : DataId → EvictStage → List Event
made_at which (stage.Close why zero) = begins why which ∷ []
made_at which _ = []

-- where a failing tells, the index has no entry of the dataset: that the entry has failed is written elsewhere
abbrev pub HasNoEntry : Closing → Machine → DataId → Type 0
HasNoEntry closing.Evicting m which = Unit {0}
HasNoEntry closing.Failing m which = is_indexed m which ≡ false

abbrev pub MayTell : Machine → DataId → EvictStage → Type 0
MayTell m which (stage.Close why node) = HasNoEntry why m which
MayTell m which (stage.CloseSync why node) = HasNoEntry why m which
MayTell m which _ = Unit {0}

-- the state after what was told
abbrev pub told_by : Setup → Machine → Progress → Machine
told_by s m (progress.Shown e) = after s m e
told_by s m _ = m

-- a device refused
abbrev pub is_refused : Progress → Bool
is_refused (progress.Fault node count) = true
is_refused (progress.Full node used capacity) = true
is_refused _ = false
