-- What is read from a source.
use Rattle.std.specs.Prelude.{ℕ, ◌≡◌, ◌≤◌, ◌+◌, List, [], length, Option, IfSome, Result, Err}
use Rattle.scr_base.specs.Causes.{Rose}
use Rattle.scr_base.specs.Streams.{Leaves}
use Rattle.scr_replay.specs.declared.input.Input.{Input}
use Rattle.scr_replay.specs.declared.input.Input.TheVariants.{Whole, TooLong}
use Rattle.scr_replay.specs.declared.input.ReadError.{ReadError}
use Rattle.scr_replay.specs.declared.input.ReadError.TheVariants.{Failed}

-- the longest text that is read, in bytes
abbrev pub longest_text : ℕ
longest_text = 4194304

-- nothing is left where it is told
abbrev pub IsSpent : Option (List ℕ) → Type 0
IsSpent left = IfSome left (λ bytes. bytes ≡ [])

-- the whole text was read to its end, or one byte more than the longest text has
abbrev pub Reads : Option (List ℕ) → Option (List ℕ) → Input → Type 0
Reads before after (Whole text) = (length text ≤ longest_text) × Leaves before after text × IsSpent after
Reads before after TooLong = (text : List ℕ) × (length text ≡ longest_text + 1) × Leaves before after text

-- the source's fault only where its count rose; at any other answer the count stays
abbrev pub ReadCause : {T : Type 0} → ℕ → ℕ → Result T ReadError → Type 0
ReadCause before now (Err Failed) = Rose before now
ReadCause before now _ = now ≡ before
