-- The file that the memory device holds in an entry.
use Rattle.std.specs.Prelude.{◌≡◌, ◌≤◌, ◌+◌, ℕ, Bool, true, false, List, [], ◌∷◌, take, length, slice_index, Option, None, Some, if◌then◌else◌}
use Rattle.std.specs.Option.{option_map}
use Rattle.node_device.specs.File.{File}
use Rattle.node_device.specs.Limits.{max_end}
use Rattle.node_device.specs.Changes.{is_written, older_byte}
use Rattle.node_device.specs.declared.changes.Changes.{Changes}
use Rattle.node_device.specs.declared.outcome.Outcome.{Outcome}
use Rattle.node_device.specs.declared.outcome.Outcome.TheVariants.{AsRead, AsStable, Scrambled}

-- bytes, if the file is there
abbrev pub present : Bool → List ℕ → Option (List ℕ)
present true bytes = Some bytes
present false bytes = None

-- the bytes from place k on, each by a function of its place
abbrev pub mapped_from : (ℕ → ℕ → ℕ) → ℕ → List ℕ → List ℕ
mapped_from f k [] = []
mapped_from f k (byte ∷ bytes) = f k byte ∷ mapped_from f (k + 1) bytes

-- the bytes as of the last sync: a fluid file has them aside, of any other the changes are undone
abbrev pub stable_bytes : Bool → List ℕ → List ℕ → ℕ → Changes → List ℕ
stable_bytes true bytes kept stable_len changes = kept
stable_bytes false bytes kept stable_len changes = mapped_from (older_byte changes) 0 (take stable_len bytes)

abbrev pub file_of : Bool → Bool → Bool → List ℕ → List ℕ → ℕ → ℕ → Changes → File
file_of there was_there fluid bytes kept stable_len greatest changes = record {
  len = option_map length (present there bytes);
  now = present there bytes;
  stable = present was_there (stable_bytes fluid bytes kept stable_len changes);
  touched = is_written changes;
  fluid = fluid;
  greatest = greatest;
}

-- an entry stands for a file, and what is not written since the last sync is as it was
pub record IsSoundFile (there was_there fluid : Bool) (bytes kept : List ℕ) (stable_len greatest : ℕ) (changes : Changes) : Type 0 where
  pub absent : there ≡ false → bytes ≡ []
  pub was_absent : was_there ≡ false → kept ≡ []
  pub steady : fluid ≡ false → there ≡ was_there
  pub stable_in : stable_len ≤ length bytes
  pub now_in : length bytes ≤ greatest
  pub kept_in : length kept ≤ greatest
  pub small : greatest ≤ max_end
  pub untouched : (k : ℕ) → is_written changes k ≡ false → fluid ≡ false → slice_index bytes k ≡ slice_index (mapped_from (older_byte changes) 0 (take stable_len bytes)) k
  pub untouched_fluid : (k : ℕ) → is_written changes k ≡ false → fluid ≡ true → slice_index bytes k ≡ 0

-- another value in each touched byte
abbrev pub scrambled : (ℕ → Bool) → List ℕ → List ℕ
scrambled touched bytes = mapped_from (λ k byte. if touched k then 0xA5 else byte) 0 bytes

-- what an outcome leaves of a file
abbrev pub left_by : Outcome → File → Option (List ℕ)
left_by AsRead f = f.now
left_by AsStable f = f.stable
left_by Scrambled f = option_map (scrambled f.touched) f.now

-- what an outcome leaves of the bytes of an entry
abbrev pub bytes_left : Outcome → Bool → List ℕ → List ℕ → ℕ → Changes → List ℕ
bytes_left AsRead fluid bytes kept stable_len changes = bytes
bytes_left AsStable fluid bytes kept stable_len changes = stable_bytes fluid bytes kept stable_len changes
bytes_left Scrambled fluid bytes kept stable_len changes = scrambled (is_written changes) bytes

abbrev pub there_left : Outcome → Bool → Bool → Bool
there_left AsStable there was_there = was_there
there_left _ there was_there = there
