-- The names of flushed files, and of all that stands under a folder.
use Rattle.std.specs.Prelude.{◌≡◌, ◌≢◌, ℕ, List, [], ◌∷◌, ◌++◌, codes, decimal}
use Rattle.node_device.specs.DeviceState.{IsDeviceName}

-- NAME/rRANK/FILE
abbrev pub flushed_name : List ℕ → ℕ → List ℕ → List ℕ
flushed_name name rank file = name ++ codes "/r" ++ decimal rank ++ 47 ∷ file

-- the name begins with the folder's and a slash
abbrev pub IsUnder : List ℕ → List ℕ → Type 0
IsUnder folder name = (rest : List ℕ) × (name ≡ folder ++ 47 ∷ rest)

-- a name that a file under the folder may have
abbrev pub IsNameUnder : List ℕ → List ℕ → Type 0
IsNameUnder folder name = IsUnder folder name × IsDeviceName name

-- no byte of these is a slash
abbrev pub HasNoSlash : List ℕ → Type 0
HasNoSlash [] = Unit {0}
HasNoSlash (b ∷ bs) = (b ≢ 47) × HasNoSlash bs
