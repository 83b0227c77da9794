-- What one change of a commit does to the devices of its bay.
use Rattle.std.specs.Prelude.{◌≡◌, ◌+◌, ℕ, true, List, length, slice_get, Some, Result, OnOk, OnErr, IfErr}
use Rattle.node_device.specs.DeviceState.{DeviceState}
use Rattle.node_device.specs.Rack.{OnlyAt}
use Rattle.gated_record.specs.Record.{HasPlace}
use Rattle.member_store.specs.Names.{record_name}
use Rattle.member_store.specs.Members.{member_body}
use Rattle.member_store.specs.Calls.{gate_number}
use Rattle.site_calls.specs.Calls.{TellsAlike, Synced, Recorded, Turned, Unrecorded, Unturned, KeptAlike}
use Rattle.site_calls.specs.Causes.{CallCause, is_device_fault}
use Rattle.site_calls.specs.Writes.{IsWrite, IsNoWrite, PassesOn}
use Rattle.site_calls.specs.declared.trouble.Trouble.{Trouble}
use Rattle.commit_core.specs.declared.change.NextChange.{NextChange}
use Rattle.commit_core.specs.declared.change.NextChange.TheVariants as change
use Rattle.commit_core.specs.declared.set.CommitSet.{CommitSet}
use Rattle.commit_core.specs.Stages.{node_of}

-- what it does to the device where it is done
abbrev pub IsDone : CommitSet → NextChange → DeviceState → DeviceState → Type 0
IsDone set (change.Record node) = Recorded (record_name set.desc.which node) (member_body set.desc node set.files)
IsDone set (change.Sync node) = Synced
IsDone set (change.Open node gate) = Turned (record_name set.desc.which node) (gate_number gate)

-- and where it is refused
abbrev pub IsRefused : CommitSet → NextChange → DeviceState → DeviceState → Type 0
IsRefused set (change.Record node) = Unrecorded (record_name set.desc.which node)
IsRefused set (change.Sync node) = KeptAlike
IsRefused set (change.Open node gate) = Unturned (record_name set.desc.which node) (gate_number gate)

-- the write that it makes
abbrev pub ChangeWrites : CommitSet → NextChange → ℕ → ℕ → List ℕ → ℕ → ℕ → Type 0
ChangeWrites set (change.Record node) place = IsWrite place (record_name set.desc.which node) 8 (8 + length (member_body set.desc node set.files))
ChangeWrites set (change.Sync node) place = IsNoWrite
ChangeWrites set (change.Open node gate) place = IsWrite place (record_name set.desc.which node) (gate_number gate) 1

-- only a fault refuses the opening of a gate of a record that has its place
abbrev pub IsSure : {T : Type 0} → CommitSet → NextChange → DeviceState → Result T Trouble → Type 0
IsSure set (change.Record node) old outcome = Unit {0}
IsSure set (change.Sync node) old outcome = Unit {0}
IsSure set (change.Open node gate) old outcome = HasPlace (old.file (record_name set.desc.which node)) (gate_number gate) → IfErr outcome (λ trouble. is_device_fault trouble ≡ true)

-- one change of one device
pub record MakesChange {T : Type 0} (set : CommitSet) (change : NextChange) (old new : ℕ → DeviceState) (outcome : Result T Trouble) : Type 0 where
  pub place : ℕ
  pub home : slice_get set.places (node_of change) ≡ Some place
  pub done : OnOk outcome (OnlyAt place (IsDone set change) old new)
  pub refused : OnErr outcome (OnlyAt place (IsRefused set change) old new)
  pub cause : CallCause (ChangeWrites set change place) old new outcome
  pub fits : OnOk outcome ((p : ℕ) (name : List ℕ) (at count : ℕ) → ChangeWrites set change place p name at count → PassesOn old p name at count → ⊥)
  pub sure : IsSure set change (old place) outcome
  pub tells : TellsAlike old new
