-- What the changes of a file since the last sync wrote, and the bytes that stood there before.
use Rattle.std.specs.Prelude.{◌+◌, ◌-◌, ◌&&◌, ◌||◌, ℕ, Bool, false, List, [], ◌∷◌, length, get_or, slice_index, nat_le, nat_lt, if◌then◌else◌}
use Rattle.node_device.specs.declared.changes.Change.{Change}
use Rattle.node_device.specs.declared.changes.Changes.{Changes}

-- the change wrote the place
abbrev pub wrote : Change → ℕ → Bool
wrote c k = nat_le c.at k && nat_lt k c.end

-- one of them wrote it
abbrev pub one_wrote : List Change → ℕ → Bool
one_wrote [] k = false
one_wrote (c ∷ cs) k = wrote c k || one_wrote cs k

-- the byte of a place before a change that leaves `byte` there
abbrev pub byte_before : Change → ℕ → ℕ → ℕ
byte_before c k byte = if nat_le c.at k && nat_lt k (c.at + length c.old.items) then slice_index c.old.items (k - c.at) else byte

-- the byte of a place before all of them, the oldest first
abbrev pub byte_before_all : List Change → ℕ → ℕ → ℕ
byte_before_all [] k byte = byte
byte_before_all (c ∷ cs) k byte = byte_before c k (byte_before_all cs k byte)

-- the place was written since the last sync
unfoldable pub is_written : Changes → ℕ → Bool
is_written changes k = if nat_lt k 8 then get_or changes.first_written k false || one_wrote changes.rest.items k else one_wrote changes.rest.items k

-- the byte of a place as of the last sync, where it's `byte` now
unfoldable pub older_byte : Changes → ℕ → ℕ → ℕ
older_byte changes k byte = if nat_lt k 8 then slice_index changes.first k else byte_before_all changes.rest.items k byte
