-- A part of some bytes, with zeros past their end.
use Rattle.std.specs.Prelude.{◌≡◌, ◌+◌, ◌<◌, ◌≤◌, ℕ, List, length, slice_index}

-- `len` of the bytes, from one place on
pub record IsStretch (whole : List ℕ) (from len : ℕ) (bytes : List ℕ) : Type 0 where
  pub size : length bytes ≡ len
  pub each : (b : ℕ) → b < len → slice_index bytes b ≡ slice_index whole (from + b)

-- `count` bytes of a buffer, from `at` on, are those of the content from `skip` on; the others stay
pub record IsFilled (content : List ℕ) (skip at count : ℕ) (old new : List ℕ) : Type 0 where
  pub size : length new ≡ length old
  pub within : at + count ≤ length old
  pub here : (b : ℕ) → b < count → slice_index new (at + b) ≡ slice_index content (skip + b)
  pub before : (b : ℕ) → b < at → slice_index new b ≡ slice_index old b
  pub behind : (b : ℕ) → at + count ≤ b → slice_index new b ≡ slice_index old b
