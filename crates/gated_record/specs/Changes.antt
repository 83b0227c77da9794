-- One change to a device, as a stage tells it.
use Rattle.std.specs.Prelude.{◌<◌, ◌≤◌, ℕ, List, length, Result}
use Rattle.scr_base.specs.declared.change.Change.{Change}
use Rattle.scr_base.specs.declared.change.Change.TheVariants.{Open, Close, Write, Sync, Remove}
use Rattle.node_device.specs.DeviceState.{DeviceState, IsDeviceName}
use Rattle.node_device.specs.Calls.{Syncs, Removes}
use Rattle.node_device.specs.declared.device.DevError.{DevError}
use Rattle.gated_record.specs.Record.{open_gate_byte}
use Rattle.gated_record.specs.Calls.{WritesBody, TurnsGate}

-- a gate of a record
pub record IsGate (name : List ℕ) (gate : ℕ) : Type 0 where
  pub is_name : IsDeviceName name
  pub below : gate < 8

-- the body of a record, which isn't too long
pub record MayFill (name body : List ℕ) : Type 0 where
  pub is_name : IsDeviceName name
  pub short : length body ≤ 1048576

-- the change may be made; a body that is written is this one
abbrev pub MayMake : Change → List ℕ → Type 0
MayMake (Open name gate) body = IsGate name gate
MayMake (Close name gate) body = IsGate name gate
MayMake (Write name) body = MayFill name body
MayMake Sync body = Unit {0}
MayMake (Remove name) body = IsDeviceName name

-- the change is made, or refused
abbrev pub Makes : {T : Type 0} → Change → List ℕ → Result T DevError → DeviceState → DeviceState → Type 0
Makes (Open name gate) body result old new = TurnsGate name gate open_gate_byte result old new
Makes (Close name gate) body result old new = TurnsGate name gate 0 result old new
Makes (Write name) body result old new = WritesBody name body result old new
Makes Sync body result old new = Syncs result old new
Makes (Remove name) body result old new = Removes name result old new
