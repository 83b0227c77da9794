-- What a claim reads, and what it leaves of the devices and the commit.
use Rattle.std.specs.Prelude.{◌≡◌, ℕ, Result, Ok}
use Rattle.scr_base.specs.declared.memory.Memory.{Memory}
use Rattle.scr_base.specs.declared.shape.Shape.{Shape}
use Rattle.node_device.specs.DeviceState.{DeviceState}
use Rattle.ckpt_model.specs.Dataset.{Dataset}
use Rattle.ckpt_model.specs.Machine.{Machine, Setup}
use Rattle.site_stands.specs.Site.{SiteStands}
use Rattle.site_calls.specs.Calls.{Tells}
use Rattle.commit_core.specs.declared.answers.Claimed.{Claimed}
use Rattle.commit_core.specs.declared.answers.Claimed.TheVariants as claimed
use Rattle.commit_core.specs.declared.set.CommitSet.{CommitSet}
use Rattle.commit_core.specs.Committing.{Committing}
use Rattle.commit_core.specs.Deposits.{AreInputsOf}
use Rattle.commit_core.specs.Holds.{IsCommitOf, CommitHolds}
use Rattle.commit_core.specs.PieceSets.{group_streams}
use Rattle.commit_core.specs.Reads.{IsReadFault, FilesRead}

-- a claim changes no device but by a fault
abbrev pub ClaimReads : (old new : ℕ → DeviceState) → Result Claimed Memory → Type 0
ClaimReads old new (Ok (claimed.Fault node count)) = IsReadFault old new node count
ClaimReads old new _ = new ≡ old

-- where the files read as the dataset's, its inputs are parts of what the members of its set have in its stripe
abbrev pub ClaimAsks : CommitSet → (ℕ → DeviceState) → Result Claimed Memory → Type 0
ClaimAsks set old (Ok (claimed.Out claim)) = (shape : Shape) (d : Dataset) → FilesRead set shape d old → AreInputsOf claim (group_streams d claim.group claim.local)
ClaimAsks set old _ = Unit {0}

-- over devices that tell their contents the site stands on, and so does the commit
abbrev pub KeepsClaiming : Committing → Committing → (old new : ℕ → DeviceState) → Type 0
KeepsClaiming before after old new = (s : Setup) (m : Machine) (d : Dataset) → Tells old → IsCommitOf s m d before.set → SiteStands s old m → CommitHolds s old m d before → SiteStands s new m × CommitHolds s new m d after
