-- What the program's own devices hold at first.
use Rattle.std.specs.Prelude.{◌≡◌, ℕ, true, List}
use Rattle.node_device.specs.File.{IsEmpty}
use Rattle.node_device.specs.DeviceState.{DeviceState}

-- the device tells what it holds, and holds nothing
pub record HoldsNothing (d : DeviceState) : Type 0 where
  pub tells : d.tells ≡ true
  pub empty : (name : List ℕ) → IsEmpty (d.file name)
