-- What a file reads as.
use Rattle.std.specs.Prelude.{◌≡◌, ◌⊎◌, ◌<◌, ◌+◌, ℕ, List, length, take, drop, Option, None, Some, IsSome}
use Rattle.std.specs.Int.{from_be_bytes, w64}
use Rattle.node_device.specs.File.{bytes_of}
use Rattle.gated_record.specs.Record.{IsOpen, HasBody, gates_of}
use Rattle.gated_record.specs.declared.reading.Record.{Record}
use Rattle.gated_record.specs.declared.record.Loaded.{Loaded}
use Rattle.gated_record.specs.declared.record.Loaded.TheVariants.{Absent, Shut, Foreign, Standing}

-- the length that stands at place 8
abbrev pub told_len : Option (List ℕ) → ℕ
told_len o = from_be_bytes w64 (take 8 (drop 8 (bytes_of o)))

-- the file is too short for its body
abbrev pub IsTooShort : Option (List ℕ) → Type 0
IsTooShort o = length (bytes_of o) < 16 + told_len o

abbrev pub LoadsAs : Option (List ℕ) → Loaded → Type 0
LoadsAs o Absent = o ≡ None
LoadsAs o Shut = IsSome o × ¬ IsOpen o 0
LoadsAs o Foreign = IsOpen o 0 × ((length (bytes_of o) < 16) ⊎ IsTooShort o)
LoadsAs o (Standing gates body) = IsOpen o 0 × HasBody o body × (gates ≡ gates_of (take 8 (bytes_of o)))

-- the whole record that a file is, whatever its gates, or none
abbrev pub HoldsRecord : Option (List ℕ) → Option Record → Type 0
HoldsRecord o None = (body : List ℕ) → ¬ HasBody o body
HoldsRecord o (Some r) = HasBody o r.body × (r.gates ≡ gates_of (take 8 (bytes_of o)))
