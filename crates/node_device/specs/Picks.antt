-- What the memory device leaves at a stop, by the number that picks.
use Rattle.std.specs.Prelude.{◌≡◌, ◌⊎◌, ◌↔◌, ℕ, Bool, true, not, List, [], ◌∷◌, Option, None, IsSome, Contains, if◌then◌else◌}
use Rattle.std.specs.Option.{option_map}
use Rattle.std.specs.Str.{bytes_eq}
use Rattle.node_device.specs.File.{File}
use Rattle.node_device.specs.Held.{scrambled}
use Rattle.node_device.specs.DeviceState.{DeviceState, IsAscending}

-- in the order of the names the first, third, fifth file as read, and the others as stable
abbrev pub turns_of : Bool → List (List ℕ) → (List ℕ → File) → List ℕ → Option (List ℕ)
turns_of odd [] file q = None
turns_of odd (name ∷ names) file q = if bytes_eq name q then (if odd then (file name).now else (file name).stable) else turns_of (not odd) names file q

-- These are the names of the files that are there or were at the last sync.
pub record AreKnown (file : List ℕ → File) (names : List (List ℕ)) : Type 0 where
  pub ascending : IsAscending names
  pub each : (q : List ℕ) → Contains names q ↔ (IsSome (file q).now ⊎ IsSome (file q).stable)

pub record IsPicked (pick : ℕ) (old new : DeviceState) : Type 0 where
  pub as_read : pick ≡ 0 → (q : List ℕ) → (new.file q).now ≡ (old.file q).now
  pub as_stable : pick ≡ 1 → (q : List ℕ) → (new.file q).now ≡ (old.file q).stable
  pub as_scrambled : pick ≡ 2 → (q : List ℕ) → (new.file q).now ≡ option_map (scrambled (old.file q).touched) (old.file q).now
  pub by_turns : pick ≡ 3 → (names : List (List ℕ)) × (AreKnown old.file names × ((q : List ℕ) → (new.file q).now ≡ turns_of true names old.file q))
