-- What the devices of a site stand for.
use Rattle.std.specs.Prelude.{◌≡◌, ◌<◌, ℕ, false, Some, slice_get, IsTrue}
use Rattle.scr_base.specs.declared.shape.DataId.{DataId}
use Rattle.node_device.specs.DeviceState.{DeviceState}
use Rattle.gate_outcomes.specs.Leaves.{Leaves}
use Rattle.ckpt_model.specs.Machine.{Machine, Setup, Kept, Entry}
use Rattle.ckpt_model.specs.Proper.{IsProper}
use Rattle.ckpt_model.specs.Questions.{is_kept}
use Rattle.ckpt_model.specs.Shows.{Shows, IsSafe}
use Rattle.ckpt_model.specs.Stops.{Choice, may_choose, after_stop, pending_of}
use Rattle.ckpt_model.specs.declared.event.StopCause.{StopCause}
use Rattle.site_stands.specs.Cells.{cells_of, IsQuiet, LeavesBay, prefix_place}
use Rattle.site_stands.specs.Entry.{entry_name, ReadsEntry}
use Rattle.site_stands.specs.Prefix.{EntryHolds, IsIndexed, PairsStand}
use Rattle.site_stands.specs.Members.{KeptStands, NoneSealed, NoneReads}
use Rattle.site_stands.specs.View.{site_view}

-- Between two runs: nothing is pending, and what reads give is shown to the machine.
pub record Stands (s : Setup) (states : ℕ → DeviceState) (m : Machine) : Type 0 where
  pub quiet : IsQuiet s.shape states
  pub shows : Shows s (site_view s.shape (cells_of states)) m

-- the nodes, identity by identity
pub record NodesStand (s : Setup) (states : ℕ → DeviceState) (m : Machine) : Type 0 where
  pub kept : (i : ℕ) (k : Kept) → slice_get m.kept i ≡ Some k → KeptStands s.shape states k
  pub others : (which : DataId) → is_kept m which ≡ false → NoneSealed s.shape states which
  pub later : (which : DataId) → m.run < which.run → NoneReads s.shape states which

-- the prefix, entry by entry and pair by pair
pub record PrefixStands (s : Setup) (disk : DeviceState) (m : Machine) : Type 0 where
  pub entries : (i : ℕ) (e : Entry) → slice_get m.index i ≡ Some e → EntryHolds s.shape disk (pending_of m.stage) e
  pub others : (which : DataId) → IsIndexed disk m which
  pub later : (which : DataId) → m.run < which.run → Leaves (disk.file (entry_name which)) (λ o. ReadsEntry o which → ⊥)
  pub pairs : PairsStand disk m

-- Between two moves of a run, or of a command: whatever is pending, this holds of all that a stop may leave.
pub record SiteStands (s : Setup) (states : ℕ → DeviceState) (m : Machine) : Type 0 where
  pub proper : IsProper s m
  pub nodes : NodesStand s states m
  pub prefix : PrefixStands s (states prefix_place) m

-- Whatever a stop by this cause leaves now is shown as a state after that stop.
abbrev pub IsSafeToStop : Setup → (ℕ → DeviceState) → StopCause → Machine → Type 0
IsSafeToStop s states why m = IsSafe s (site_view s.shape) (LeavesBay states) why m

-- The devices stand for a state after a stop by this cause.
abbrev pub StandsAfterStop : Setup → (ℕ → DeviceState) → StopCause → Machine → Type 0
StandsAfterStop s states why m = (c : Choice) × IsTrue (may_choose s m why c) × Stands s states (after_stop s m c)
