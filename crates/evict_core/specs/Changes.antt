-- What one change does to the devices of a bay while a dataset leaves the cache.
use Rattle.std.specs.Prelude.{◌≡◌, ◌<◌, ℕ, Bool, true, false, List, length, set, slice_get, Some, Result, IfOk, OnOk, OnErr, IfErr}
use Rattle.node_device.specs.File.{bytes_of, Torn}
use Rattle.node_device.specs.DeviceState.{DeviceState, ChangesOnly}
use Rattle.node_device.specs.Rack.{OnlyAt}
use Rattle.member_store.specs.Names.{record_name}
use Rattle.site_calls.specs.Calls.{TellsAlike, Synced, Unturned, KeptAlike, FileDropped}
use Rattle.site_calls.specs.Causes.{CallCause, is_device_fault}
use Rattle.site_calls.specs.Removals.{Leaving}
use Rattle.site_calls.specs.Writes.{IsWrite, IsNoWrite, PassesOn}
use Rattle.site_calls.specs.declared.trouble.Trouble.{Trouble}
use Rattle.evict_core.specs.declared.change.EvictChange.{EvictChange}
use Rattle.evict_core.specs.declared.change.EvictChange.TheVariants as change
use Rattle.evict_core.specs.declared.set.EvictSet.{EvictSet}
use Rattle.evict_core.specs.Stages.{node_of}

-- the gate `sealed` of a record that has its place was closed; a stop leaves the rest of the record as before
pub record Closed (name : List ℕ) (old new : DeviceState) : Type 0 where
  pub now : old.tells ≡ true → 1 < length (bytes_of (old.file name).now) → (new.file name).now ≡ Some (set (bytes_of (old.file name).now) 1 0)
  pub torn : Torn 1 1 (old.file name) (new.file name)
  pub only : ChangesOnly name old new

-- the removal is of the member whose files are removed
abbrev pub IsOf : EvictSet → EvictChange → Leaving → Type 0
IsOf base (change.Remove node) removal = (removal.which ≡ base.which) × (removal.node ≡ node)
IsOf base _ removal = Unit {0}

-- what the change does to the device where it is done; `over`: no file of the member is left
abbrev pub IsDone : EvictSet → EvictChange → Leaving → Leaving → Bool → DeviceState → DeviceState → Type 0
IsDone base (change.Close node) before after over = Closed (record_name base.which node)
IsDone base (change.Sync node) before after over = Synced
IsDone base (change.Remove node) before after over = FileDropped base.which node over before.changes after.changes

-- and where it is refused
abbrev pub IsRefused : EvictSet → EvictChange → DeviceState → DeviceState → Type 0
IsRefused base (change.Close node) = Unturned (record_name base.which node) 1
IsRefused base _ = KeptAlike

-- the write that it makes
abbrev pub ChangeWrites : EvictSet → EvictChange → ℕ → ℕ → List ℕ → ℕ → ℕ → Type 0
ChangeWrites base (change.Close node) place = IsWrite place (record_name base.which node) 1 1
ChangeWrites base _ place = IsNoWrite

-- a closing and a sync are whole at once
abbrev pub IsWhole : EvictChange → Bool → Type 0
IsWhole (change.Remove node) over = Unit {0}
IsWhole _ over = over ≡ true

-- one change of one device
pub record MakesChange (base : EvictSet) (change : EvictChange) (before after : Leaving) (old new : ℕ → DeviceState) (outcome : Result Bool Trouble) : Type 0 where
  pub place : ℕ
  pub home : slice_get base.places (node_of change) ≡ Some place
  pub done : IfOk outcome (λ over. OnlyAt place (IsDone base change before after over) old new)
  pub whole : IfOk outcome (IsWhole change)
  pub refused : OnErr outcome (OnlyAt place (IsRefused base change) old new)
  pub stays : OnErr outcome (after ≡ before)
  pub cause : CallCause (ChangeWrites base change place) old new outcome
  pub fits : OnOk outcome ((p : ℕ) (name : List ℕ) (at count : ℕ) → ChangeWrites base change place p name at count → PassesOn old p name at count → ⊥)
  pub spared : IfErr outcome (λ trouble. is_device_fault trouble ≡ false → new ≡ old)
  pub tells : TellsAlike old new
