-- Numbers and bytes as they are spelled.
use Rattle.std.specs.Prelude.{ℕ, ◌≡◌, ◌≤◌, decimal, ◌+◌, ◌*◌, ◌-◌, ◌==◌, min, Bool, List, [], ◌∷◌, length, Option, Some, None, Result, Err, option_map, option_and_then, if◌then◌else◌}
use Rattle.scr_base.specs.Words.{is_between}
use Rattle.decimal.specs.Numbers.{number_in as decimal_in}
use Rattle.script_reader.specs.Reasons.{or_reason}
use Rattle.script_reader.specs.declared.reason.Reason.{Reason}
use Rattle.script_reader.specs.declared.reason.Reason.TheVariants as reason

abbrev pub is_digit : ℕ → Bool
is_digit b = is_between 48 57 b

-- the number of at most 10 digits that a word is, if it lies between two others
unfoldable pub number_in : ℕ → ℕ → List ℕ → Option ℕ
number_in low high w = decimal_in low (min high 9999999999) w

-- the value of a digit in lower case hexadecimal
abbrev pub hex_digit : ℕ → Option ℕ
hex_digit b = if is_digit b then Some (b - 48) else if is_between 97 102 b then Some (b - 97 + 10) else None

-- the byte of two such digits
abbrev pub byte_in_hex : ℕ → ℕ → Option ℕ
byte_in_hex a b = option_and_then (λ x. option_map (λ y. 16 * x + y) (hex_digit b)) (hex_digit a)

-- the bytes of a word in lower case hexadecimal, two digits each
unfoldable pub hex_bytes : List ℕ → Option (List ℕ)
hex_bytes [] = Some []
hex_bytes (a ∷ []) = None
hex_bytes (a ∷ b ∷ w) = option_and_then (λ x. option_map (λ xs. x ∷ xs) (hex_bytes w)) (byte_in_hex a b)

-- the same, for at least one byte
unfoldable pub bytes_in_hex : List ℕ → Result (List ℕ) Reason
bytes_in_hex w = if length w == 0 then Err reason.Number else or_reason reason.Number (hex_bytes w)

-- the number lies between two others and has at most 10 digits, and the word is its decimal form
pub record IsDecimalIn (low high : ℕ) (w : List ℕ) (n : ℕ) : Type 0 where
  pub above : low ≤ n
  pub below : n ≤ high
  pub short : n ≤ 9999999999
  pub spelled : w ≡ decimal n
