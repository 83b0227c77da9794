-- What holds of the devices of a site while a dataset is committed.
use Rattle.std.specs.Prelude.{◌≡◌, ◌<◌, ◌≤◌, ◌+◌, ℕ, zero, suc, Bool, true, false, List, [], ◌∷◌, length, Some, slice_get, slice_index_or}
use Rattle.node_device.specs.DeviceState.{DeviceState}
use Rattle.ckpt_model.specs.declared.event.Event.{Event}
use Rattle.ckpt_model.specs.declared.event.Event.TheVariants as event
use Rattle.ckpt_model.specs.declared.progress.Progress.{Progress}
use Rattle.ckpt_model.specs.declared.progress.Progress.TheVariants as progress
use Rattle.ckpt_model.specs.Dataset.{Dataset}
use Rattle.ckpt_model.specs.Machine.{Machine, Setup, Kept}
use Rattle.ckpt_model.specs.Moves.{after}
use Rattle.ckpt_model.specs.Proper.{IsProper}
use Rattle.ckpt_model.specs.Questions.{is_kept}
use Rattle.ckpt_model.specs.Steps.{kept_sealing, after_settling}
use Rattle.model_proper.specs.Next.{IsSealedNext}
use Rattle.site_stands.specs.Cells.{physical_nodes}
use Rattle.site_stands.specs.Described.{Describes}
use Rattle.site_stands.specs.Gate.{Gate, GatesHold}
use Rattle.commit_core.specs.declared.claim.Claim.{Claim}
use Rattle.commit_core.specs.declared.set.CommitSet.{CommitSet}
use Rattle.commit_core.specs.declared.standing.Standing.TheVariants.{Unclaimed}
use Rattle.commit_core.specs.declared.stage.CommitStage.{CommitStage}
use Rattle.commit_core.specs.declared.stage.CommitStage.TheVariants as stage
use Rattle.commit_core.specs.Committing.{Committing}
use Rattle.commit_core.specs.Deposits.{AreInputsOf}
use Rattle.commit_core.specs.PieceSets.{group_streams}
use Rattle.commit_core.specs.Fill.{Fill, FillHolds}
use Rattle.commit_core.specs.LedgerBook.{Book, is_done}
use Rattle.commit_core.specs.Opened.{opened_to, filled_to}
use Rattle.commit_core.specs.SharePieces.{PiecesHold}

-- the dataset that is committed is this one of the machine's, of a run so far, on the run's places
pub record IsCommitOf (s : Setup) (m : Machine) (d : Dataset) (set : CommitSet) : Type 0 where
  pub describes : Describes s.shape set.desc set.files d
  pub places : set.places ≡ m.places
  pub low : (node p : ℕ) → slice_get m.places node ≡ Some p → p < physical_nodes s.shape
  pub so_far : d.which.run ≤ m.run

-- the kept dataset of that identity is this one, and is being sealed
pub record IsSealedAlone (m : Machine) (d : Dataset) : Type 0 where
  pub there : is_kept m d.which ≡ true
  pub alone : (i : ℕ) (k : Kept) → slice_get m.kept i ≡ Some k → k.dataset.which ≡ d.which → k ≡ kept_sealing m.places d

-- before the first gate `sealed` it isn't kept, and then it is
abbrev pub IsKeptBy : Machine → Dataset → (sealed : ℕ) → Type 0
IsKeptBy m d zero = is_kept m d.which ≡ false
IsKeptBy m d (suc sealed) = IsSealedAlone m d

-- the pieces that are done
abbrev pub done_in : Book → ℕ → Bool
done_in book i = is_done (slice_index_or book.standings i Unclaimed)

-- the commit of the dataset has come so far
abbrev pub StageHolds : Setup → (ℕ → DeviceState) → Machine → Dataset → Book → CommitStage → Type 0
StageHolds s states m d book stage.Pieces = (is_kept m d.which ≡ false) × (length book.standings ≡ length book.pieces) × PiecesHold s.shape states m.places d book.pieces (done_in book)
StageHolds s states m d book (stage.Record node) = (is_kept m d.which ≡ false) × FillHolds s.shape states m.places d (filled_to node Fill.Parts)
StageHolds s states m d book (stage.RecordSync node) = (is_kept m d.which ≡ false) × FillHolds s.shape states m.places d (filled_to node Fill.Written)
StageHolds s states m d book (stage.Whole node) = (is_kept m d.which ≡ false) × GatesHold s.shape states m.places d (opened_to node Gate.Shut) (λ i. Gate.Shut)
StageHolds s states m d book (stage.WholeSync node) = (is_kept m d.which ≡ false) × GatesHold s.shape states m.places d (opened_to node Gate.Turning) (λ i. Gate.Shut)
StageHolds s states m d book (stage.Sealed node) = IsKeptBy m d node × GatesHold s.shape states m.places d (λ i. Gate.Open) (opened_to node Gate.Shut)
StageHolds s states m d book (stage.SealedSync node) = IsSealedAlone m d × GatesHold s.shape states m.places d (λ i. Gate.Open) (opened_to node Gate.Turning)
StageHolds s states m d book stage.Over = Unit {0}

-- the inputs of each claim that is out are parts of what the members of its set have in its stripe
abbrev pub OutsAsk : Dataset → List Claim → Type 0
OutsAsk d outs = (k : ℕ) (claim : Claim) → slice_get outs k ≡ Some claim → AreInputsOf claim (group_streams d claim.group claim.local)

pub record CommitHolds (s : Setup) (states : ℕ → DeviceState) (m : Machine) (d : Dataset) (c : Committing) : Type 0 where
  pub so_far : StageHolds s states m d c.book c.stage
  pub asks : OutsAsk d c.outs

-- the machine may take the event that the next change shows, if it shows one
abbrev pub MayShow : Setup → Machine → Dataset → CommitStage → Type 0
MayShow s m d (stage.Sealed zero) = IsSealedNext s m d
MayShow s m d (stage.SealedSync node) = node + 1 ≡ s.shape.nodes → IsProper s (after_settling m d.which)
MayShow s m d _ = Unit {0}

-- what a refused write may have made of the machine's state: the first gate `sealed` may be open
abbrev pub made_at : Dataset → CommitStage → List Event
made_at d (stage.Sealed zero) = event.Sealing d.which ∷ []
made_at d _ = []

-- the state after what was told
abbrev pub told_by : Setup → Machine → Progress → Machine
told_by s m (progress.Shown e) = after s m e
told_by s m _ = m

-- a device refused
abbrev pub is_refused : Progress → Bool
is_refused (progress.Fault node count) = true
is_refused (progress.Full node used capacity) = true
is_refused _ = false
