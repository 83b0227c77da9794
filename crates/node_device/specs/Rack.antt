-- The devices of a bay by their places: 0 to 31 are the nodes, and 32 is the prefix.
use Rattle.std.specs.Prelude.{◌≡◌, ◌≢◌, ℕ, true, List, [], map, slice_set, slice_index_or, if◌then◌else◌, ◌==◌}
use Rattle.node_device.specs.File.{no_file}
use Rattle.node_device.specs.DeviceState.{DeviceState}

pub record Rack (D : Type 0) : Type 0 where
  pub nodes : List D
  pub prefix : D

-- the device at the place
abbrev pub device_at : {D : Type 0} → Rack D → ℕ → D
device_at rack place = if place == 32 then rack.prefix else slice_index_or rack.nodes place rack.prefix

-- the devices with another one in the place
abbrev pub with_device : {D : Type 0} → Rack D → ℕ → D → Rack D
with_device rack place device = if place == 32 then record rack { prefix = device } else record rack { nodes = slice_set rack.nodes place device }

-- what is held at a place that no bay has
abbrev pub nowhere : DeviceState
nowhere = record { tells = true; file = λ q. no_file; names = []; capacity = 0; faults = 0 }

-- what each place holds
unfoldable pub states_of : {D : Type 0} → (D → DeviceState) → Rack D → ℕ → DeviceState
states_of state rack place = if place == 32 then state rack.prefix else slice_index_or (map state rack.nodes) place nowhere

-- This was done at one place, and nothing at the others.
pub record OnlyAt (place : ℕ) (Done : DeviceState → DeviceState → Type 0) (old new : ℕ → DeviceState) : Type 0 where
  pub here : Done (old place) (new place)
  pub others : (q : ℕ) → q ≢ place → new q ≡ old q
