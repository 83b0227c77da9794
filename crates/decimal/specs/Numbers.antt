-- Which number some digits are.
use Rattle.std.specs.Prelude.{◌≡◌, ℕ, ◌^◌, ◌<◌, ◌&&◌, List, Option, Some, None, option_and_then, if◌then◌else◌, decimal, bytes_eq, nat_le, nat_lt}
use Rattle.std.specs.Str.Parse.{digits_value}

-- the number below 2 ^ 64 of which these are the decimal digits, without leading zeros
unfoldable pub number_of : List ℕ → Option ℕ
number_of ds = if bytes_eq (decimal (digits_value 10 ds)) ds && nat_lt (digits_value 10 ds) (2 ^ 64) then Some (digits_value 10 ds) else None

-- the same, if it lies below a limit
unfoldable pub number_below : ℕ → List ℕ → Option ℕ
number_below limit ds = option_and_then (λ n. if nat_lt n limit then Some n else None) (number_of ds)

-- the same, if it lies between two others
unfoldable pub number_in : ℕ → ℕ → List ℕ → Option ℕ
number_in low high ds = option_and_then (λ n. if nat_le low n && nat_le n high then Some n else None) (number_of ds)

-- these are the decimal digits of a number below 2 ^ 64
pub record IsDecimalOf (n : ℕ) (ds : List ℕ) : Type 0 where
  pub spelled : ds ≡ decimal n
  pub fits : n < 2 ^ 64
