-- What the parts of a clearing do: the names that are picked, and the removal of the file that comes next.
use Rattle.std.specs.Prelude.{◌≡◌, ◌≢◌, ◌<◌, ℕ, List, [], ◌∷◌, map, get_or, All, AllPairs, Contains, Option, None, Some, Result, IsOk}
use Rattle.scr_base.specs.declared.change.Change.{Change}
use Rattle.scr_base.specs.declared.change.Change.TheVariants.{Remove}
use Rattle.node_device.specs.DeviceState.{DeviceState, IsDeviceName, IsUnchanged}
use Rattle.node_device.specs.Answers.{HasDeviceCause}
use Rattle.node_device.specs.Calls.{Removes}
use Rattle.node_device.specs.declared.device.DevError.{DevError}
use Rattle.prefix_store.specs.Names.{IsUnder}
use Rattle.prefix_store.specs.Calls.{AreFilesUnder}

-- the name stands among the first n
abbrev pub StandsBelow : List (List ℕ) → ℕ → List ℕ → Type 0
StandsBelow names n name = (k : ℕ) × (k < n) × (get_or names k [] ≡ name)

-- a name under the folder, among the first n
pub record IsPicked (folder : List ℕ) (names : List (List ℕ)) (n : ℕ) (name : List ℕ) : Type 0 where
  pub under : IsUnder folder name
  pub stands : StandsBelow names n name

-- of the first n names, those under the folder, each once
pub record Picks (folder : List ℕ) (names : List (List ℕ)) (n : ℕ) (picked : List (List ℕ)) : Type 0 where
  pub each : All (IsPicked folder names n) picked
  pub every : (k : ℕ) → k < n → IsUnder folder (get_or names k []) → Contains picked (get_or names k [])
  pub distinct : AllPairs (λ name other. name ≢ other) picked

-- the removals of the files under the folder, each once
abbrev pub AreRemovalsUnder : List ℕ → DeviceState → List Change → Type 0
AreRemovalsUnder folder d changes = (names : List (List ℕ)) × (changes ≡ map Remove names) × AreFilesUnder folder d names

-- the change is the removal of a file with a device's name
abbrev pub IsRemoval : Change → Type 0
IsRemoval change = (name : List ℕ) × (change ≡ Remove name) × IsDeviceName name

abbrev pub MayRemoveNext : Option (List Change) → Type 0
MayRemoveNext None = Unit {0}
MayRemoveNext (Some []) = Unit {0}
MayRemoveNext (Some (change ∷ later)) = IsRemoval change

-- the file that comes next is removed, or that is refused; where there is none, nothing is changed
abbrev pub RemovesNext : {T : Type 0} → Option (List Change) → Result T DevError → DeviceState → DeviceState → Type 0
RemovesNext None result old new = IsUnchanged old new × IsOk result × HasDeviceCause old new result
RemovesNext (Some []) result old new = IsUnchanged old new × IsOk result × HasDeviceCause old new result
RemovesNext (Some (change ∷ later)) result old new = (name : List ℕ) → change ≡ Remove name → Removes name result old new
