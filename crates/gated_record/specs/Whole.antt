-- A record from the writing of its body to the opening of a gate.
use Rattle.std.specs.Prelude.{◌≡◌, ◌<◌, ℕ, true, List, Option, Result, IsOk}
use Rattle.node_device.specs.File.{MayLeave}
use Rattle.node_device.specs.DeviceState.{DeviceState}
use Rattle.node_device.specs.Calls.{Syncs}
use Rattle.node_device.specs.declared.device.DevError.{DevError}
use Rattle.gated_record.specs.Record.{AreShut, HasShutGates, IsShutOrWhole, open_gate_byte}
use Rattle.gated_record.specs.Calls.{WritesBody, TurnsGate}

-- what a call answers that has nothing to give
abbrev pub Answer : Type 0
Answer = Result (Unit {0}) DevError

-- Over a file of shut gates, on a device that tells, a body is written, it is synced, and a gate is opened: the answers of
-- the three calls, and the states before, between and after.
pub record Saves (name body : List ℕ) (gate : ℕ) (wrote synced opened : Answer) (before written stable after : DeviceState) : Type 0 where
  pub tells : before.tells ≡ true
  pub shut : HasShutGates (before.file name)
  pub below : gate < 8
  pub writes : WritesBody name body wrote before written
  pub syncs : Syncs synced written stable
  pub opens : TurnsGate name gate open_gate_byte opened stable after

-- Whatever a stop leaves: no gate is open before one is opened, whatever the calls answered; and where the body was written
-- and synced before that, the file is shut then, or open with the whole body.
pub record IsShutOrSaved (name body : List ℕ) (gate : ℕ) (wrote synced opened : Answer) (before written stable after : DeviceState) : Type 0 where
  pub written_shut : (o : Option (List ℕ)) → MayLeave (written.file name) o → AreShut o
  pub stable_shut : (o : Option (List ℕ)) → MayLeave (stable.file name) o → AreShut o
  pub whole : IsOk wrote → IsOk synced → (g : ℕ) → IsShutOrWhole (after.file name) g body
