-- What one step does, whole: its answer, the dataset that leaves and the devices before and after.
use Rattle.std.specs.Prelude.{◌≡◌, ◌≢◌, ◌⊎◌, ◌<◌, ◌+◌, ℕ, false, List, slice_get, Some, Result, Ok, Err, OnErr, IfOk, fold}
use Rattle.scr_base.specs.Stages.{left}
use Rattle.scr_base.specs.declared.memory.Memory.{Memory}
use Rattle.node_device.specs.DeviceState.{DeviceState, ChangesOnly, ReadsAlike}
use Rattle.node_device.specs.File.{IsPartlySynced, IsRemoved, Torn}
use Rattle.member_store.specs.Names.{IsNameOf, record_name}
use Rattle.ckpt_model.specs.declared.progress.Progress.{Progress}
use Rattle.ckpt_model.specs.declared.progress.Progress.TheVariants as progress
use Rattle.ckpt_model.specs.Dataset.{Dataset}
use Rattle.ckpt_model.specs.Machine.{Machine, Setup}
use Rattle.ckpt_model.specs.Moves.{after}
use Rattle.ckpt_model.specs.Questions.{is_kept}
use Rattle.site_stands.specs.Members.{NoneSealed}
use Rattle.site_stands.specs.Site.{SiteStands}
use Rattle.site_calls.specs.Calls.{Tells, TellsAlike}
use Rattle.site_calls.specs.Causes.{IsFault, IsFull, IsCalm}
use Rattle.site_calls.specs.Writes.{IsWrite, PassesOn}
use Rattle.evict_core.specs.declared.set.EvictSet.{EvictSet}
use Rattle.evict_core.specs.declared.stage.EvictStage.{EvictStage}
use Rattle.evict_core.specs.declared.stage.EvictStage.TheVariants as stage
use Rattle.evict_core.specs.Evicting.{Evicting}
use Rattle.evict_core.specs.Holds.{IsEvictOf, EvictHolds, MayTell, made_at, told_by, is_refused}
use Rattle.evict_core.specs.Stages.{steps_left}

-- on a node's place the gate `sealed` of its record is written, done or refused, or a file of its member is removed
pub record ChangesOwn (base : EvictSet) (place : ℕ) (old new : DeviceState) : Type 0 where
  pub node : ℕ
  pub home : slice_get base.places node ≡ Some place
  pub name : List ℕ
  pub named : IsNameOf base.which node name
  pub only : ChangesOnly name old new
  pub how : ((name ≡ record_name base.which node) × Torn 1 1 (old.file name) (new.file name)) ⊎ IsRemoved (old.file name) (new.file name)

-- one file of the dataset on one device is changed so, or one device is synced, done or refused; all else is as it was
pub record IsOneChange (base : EvictSet) (old new : ℕ → DeviceState) : Type 0 where
  pub place : ℕ
  pub elsewhere : (q : ℕ) → q ≢ place → new q ≡ old q
  pub here : ChangesOwn base place (old place) (new place) ⊎ (ReadsAlike (old place) (new place) × ((q : List ℕ) → IsPartlySynced ((old place).file q) ((new place).file q)))

-- the write of a gate `sealed`, on the node's place
pub record ClosesAt (base : EvictSet) (node p : ℕ) (name : List ℕ) (at count : ℕ) : Type 0 where
  pub place : ℕ
  pub home : slice_get base.places node ≡ Some place
  pub writes : IsWrite place (record_name base.which node) 1 1 p name at count

-- the write that a step makes
abbrev pub StageWrites : EvictSet → EvictStage → ℕ → List ℕ → ℕ → ℕ → Type 0
StageWrites base (stage.Close why node) p name at count = ClosesAt base node p name at count
StageWrites base _ p name at count = ⊥

abbrev pub StepWrites : Evicting → ℕ → List ℕ → ℕ → ℕ → Type 0
StepWrites e = StageWrites e.set e.stage

-- a fault only where that count rose in this step, a full device only where the step's write passes its capacity, and no count rose otherwise
abbrev pub StepCause : (ℕ → List ℕ → ℕ → ℕ → Type 0) → (ℕ → DeviceState) → (ℕ → DeviceState) → Result Progress Memory → Type 0
StepCause writes old new (Ok (progress.Fault node count)) = IsFault old new node count
StepCause writes old new (Ok (progress.Full node used capacity)) = IsFull writes old new node used capacity
StepCause writes old new _ = IsCalm old new

-- one gate, member or sync less is left; or the member still has files, and one less
abbrev pub LeavesLess : ℕ → Evicting → Evicting → Type 0
LeavesLess nodes before after =
    (steps_left nodes after.stage + 1 ≡ steps_left nodes before.stage) ⊎ ((after.stage ≡ before.stage) × (left after.removal.changes < left before.removal.changes))

-- after a refusal nothing is left to do, and each other step leaves less
abbrev pub IsLess : ℕ → Evicting → Evicting → Progress → Type 0
IsLess nodes before after (progress.Fault node count) = after.stage ≡ stage.Over
IsLess nodes before after (progress.Full node used capacity) = after.stage ≡ stage.Over
IsLess nodes before after progress.Over = (before.stage ≡ stage.Over) × (after.stage ≡ stage.Over)
IsLess nodes before after _ = LeavesLess nodes before after

-- what stands after the answer: the state that was told, or the one that a refused write may have made of it
abbrev pub LeavesSite : Setup → Machine → Dataset → Evicting → Evicting → (ℕ → DeviceState) → Result Progress Memory → Type 0
LeavesSite s m d before after new (Err e) = SiteStands s new m × EvictHolds s new m d after
LeavesSite s m d before done new (Ok (progress.Fault node count)) = SiteStands s new (fold (after s) m (made_at d.which before.stage))
LeavesSite s m d before done new (Ok (progress.Full node used capacity)) = SiteStands s new (fold (after s) m (made_at d.which before.stage))
LeavesSite s m d before done new (Ok p) = SiteStands s new (told_by s m p) × EvictHolds s new (told_by s m p) d done

-- over devices that tell their contents
abbrev pub KeepsSite : Evicting → Evicting → (ℕ → DeviceState) → (ℕ → DeviceState) → Result Progress Memory → Type 0
KeepsSite before after old new result = (s : Setup) (m : Machine) (d : Dataset) → Tells old → IsEvictOf s m d before.set → MayTell m d.which before.stage → SiteStands s old m → EvictHolds s old m d before → LeavesSite s m d before after new result

-- and of a dataset that isn't kept no stop leaves a record sealed, whatever the answer
abbrev pub KeepsUnsealed : Evicting → (ℕ → DeviceState) → (ℕ → DeviceState) → Type 0
KeepsUnsealed before old new = (s : Setup) (m : Machine) (d : Dataset) → Tells old → IsEvictOf s m d before.set → SiteStands s old m → EvictHolds s old m d before → is_kept m d.which ≡ false → NoneSealed s.shape new d.which

pub record TakesStep (before after : Evicting) (old new : ℕ → DeviceState) (result : Result Progress Memory) : Type 0 where
  -- the dataset stays
  pub set : after.set ≡ before.set
  -- want of memory leaves all as before
  pub memory : OnErr result (after ≡ before)
  pub one : IsOneChange before.set old new
  pub cause : StepCause (StepWrites before) old new result
  pub fits : IfOk result (λ p. is_refused p ≡ false → (place : ℕ) (name : List ℕ) (at count : ℕ) → StepWrites before place name at count → PassesOn old place name at count → ⊥)
  pub left : IfOk result (IsLess before.set.nodes before after)
  pub tells : TellsAlike old new
  pub safe : KeepsSite before after old new result
  pub unsealed : KeepsUnsealed before old new
