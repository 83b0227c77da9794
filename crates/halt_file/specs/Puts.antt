-- How the tree of the conditions grows.
use Rattle.std.specs.Prelude.{ℕ, List, Option, None, Some}
use Rattle.kvtree.specs.Entries.{Entries}
use Rattle.kvtree.specs.Lookup.{put, leaf}

-- a value is put under a key, where it is set
abbrev pub put_field : Entries → List ℕ → Option (List ℕ) → Entries
put_field t key None = t
put_field t key (Some value) = put t key (leaf value)
