-- What one step of a commit does, whole: its answer, the commit and the devices before and after.
use Rattle.std.specs.Prelude.{◌≡◌, ◌≢◌, ◌⊎◌, ℕ, false, List, slice_get, Some, Result, Ok, Err, OnErr, IfOk, fold}
use Rattle.scr_base.specs.declared.memory.Memory.{Memory}
use Rattle.node_device.specs.DeviceState.{DeviceState, ChangesOnly, ReadsAlike}
use Rattle.node_device.specs.File.{IsPartlySynced}
use Rattle.ckpt_model.specs.declared.progress.Progress.{Progress}
use Rattle.ckpt_model.specs.declared.progress.Progress.TheVariants as progress
use Rattle.ckpt_model.specs.Dataset.{Dataset}
use Rattle.ckpt_model.specs.Machine.{Machine, Setup}
use Rattle.ckpt_model.specs.Moves.{after}
use Rattle.site_stands.specs.Site.{SiteStands}
use Rattle.site_calls.specs.Calls.{Tells, TellsAlike}
use Rattle.site_calls.specs.Causes.{IsFault, IsFull, IsCalm}
use Rattle.site_calls.specs.Writes.{PassesOn}
use Rattle.commit_core.specs.declared.change.NextChange.{NextChange}
use Rattle.commit_core.specs.declared.stage.CommitStage.TheVariants as stage
use Rattle.commit_core.specs.Changes.{ChangeWrites}
use Rattle.commit_core.specs.Committing.{Committing}
use Rattle.commit_core.specs.Holds.{IsCommitOf, CommitHolds, MayShow, made_at, told_by, is_refused}
use Rattle.commit_core.specs.Stages.{change_at, node_of, LeavesLess}

-- one file of one device is changed, or one device is synced, done or refused; all else is as it was
pub record IsOneChange (old new : ℕ → DeviceState) : Type 0 where
  pub place : ℕ
  pub elsewhere : (q : ℕ) → q ≢ place → new q ≡ old q
  pub here : ((name : List ℕ) × ChangesOnly name (old place) (new place)) ⊎ (ReadsAlike (old place) (new place) × ((q : List ℕ) → IsPartlySynced ((old place).file q) ((new place).file q)))

-- the write that a step makes
pub record StepWrites (c : Committing) (p : ℕ) (name : List ℕ) (at count : ℕ) : Type 0 where
  pub change : NextChange
  pub next : change_at c.stage ≡ Some change
  pub place : ℕ
  pub home : slice_get c.set.places (node_of change) ≡ Some place
  pub writes : ChangeWrites c.set change place p name at count

-- a fault only where that count rose in this step, a full device only where the step's write passes its capacity, and no count rose otherwise
abbrev pub StepCause : (ℕ → List ℕ → ℕ → ℕ → Type 0) → (ℕ → DeviceState) → (ℕ → DeviceState) → Result Progress Memory → Type 0
StepCause writes old new (Ok (progress.Fault node count)) = IsFault old new node count
StepCause writes old new (Ok (progress.Full node used capacity)) = IsFull writes old new node used capacity
StepCause writes old new _ = IsCalm old new

-- after a refusal nothing is left to do, and each other step leaves one change less
abbrev pub IsLess : ℕ → Committing → Committing → Progress → Type 0
IsLess nodes before after (progress.Fault node count) = after.stage ≡ stage.Over
IsLess nodes before after (progress.Full node used capacity) = after.stage ≡ stage.Over
IsLess nodes before after progress.Over = (before.stage ≡ stage.Over) × (after.stage ≡ stage.Over)
IsLess nodes before after _ = LeavesLess nodes before.stage after.stage

-- what stands after the answer: the state that was told, or the one that a refused write may have made of it
abbrev pub LeavesSite : Setup → Machine → Dataset → Committing → Committing → (ℕ → DeviceState) → Result Progress Memory → Type 0
LeavesSite s m d before after new (Err e) = SiteStands s new m × CommitHolds s new m d after
LeavesSite s m d before done new (Ok (progress.Fault node count)) = SiteStands s new (fold (after s) m (made_at d before.stage))
LeavesSite s m d before done new (Ok (progress.Full node used capacity)) = SiteStands s new (fold (after s) m (made_at d before.stage))
LeavesSite s m d before done new (Ok p) = SiteStands s new (told_by s m p) × CommitHolds s new (told_by s m p) d done

-- over devices that tell their contents
abbrev pub KeepsSite : Committing → Committing → (ℕ → DeviceState) → (ℕ → DeviceState) → Result Progress Memory → Type 0
KeepsSite before after old new result = (s : Setup) (m : Machine) (d : Dataset) → Tells old → IsCommitOf s m d before.set → MayShow s m d before.stage → SiteStands s old m → CommitHolds s old m d before → LeavesSite s m d before after new result

pub record TakesStep (before after : Committing) (old new : ℕ → DeviceState) (result : Result Progress Memory) : Type 0 where
  -- the dataset, the book of its pieces and the claims that are out stay
  pub set : after.set ≡ before.set
  pub book : after.book ≡ before.book
  pub outs : after.outs ≡ before.outs
  -- want of memory leaves the commit as before
  pub memory : OnErr result (after.stage ≡ before.stage)
  pub one : IsOneChange old new
  pub cause : StepCause (StepWrites before) old new result
  pub fits : IfOk result (λ p. is_refused p ≡ false → (place : ℕ) (name : List ℕ) (at count : ℕ) → StepWrites before place name at count → PassesOn old place name at count → ⊥)
  pub left : IfOk result (IsLess before.set.desc.nodes before after)
  pub tells : TellsAlike old new
  pub safe : KeepsSite before after old new result
