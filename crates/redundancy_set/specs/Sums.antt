-- How the segments of some members of a stripe sum up to another's.
use Rattle.std.specs.Prelude.{◌≡◌, ◌≢◌, ℕ, ◌+◌, ◌<◌, Bool, true, not, List, [], length, filter, Option, slice_index, slice_index_or}
use Rattle.scr_base.specs.declared.shape.Scheme.{Scheme}
use Rattle.scr_base.specs.Sets.{numbers_below}
use Rattle.poly_code.specs.Polynomial.{IsBytes, weighted_sum}
use Rattle.partner_copy.specs.declared.Held.{Held}
use Rattle.member_shares.specs.Layout.{holds_parity}
use Rattle.member_shares.specs.Shares.{IsCodeColumn}
use Rattle.redundancy_set.specs.Known.{is_lost}

-- so many members of n, ascending, without the target
pub record ArePlaces (n count target : ℕ) (places : List ℕ) : Type 0 where
  pub size : length places ≡ count
  pub below : (j : ℕ) → j < length places → slice_index places j < n
  pub others : (j : ℕ) → j < length places → slice_index places j ≢ target
  pub ascend : (i j : ℕ) → i < j → j < length places → slice_index places i < slice_index places j

-- in each column of n bytes the target's is the sum of those at the places, each times its factor
pub record AreFactors (scheme : Scheme) (n : ℕ) (places : List ℕ) (target : ℕ) (factors : List ℕ) : Type 0 where
  pub size : length factors ≡ length places
  pub value : (bytes : List ℕ) → length bytes ≡ n → IsCodeColumn scheme bytes
      → ((j : ℕ) → j < length places → slice_index bytes (slice_index places j) < 256)
      → slice_index bytes target ≡ weighted_sum (slice_index factors) (λ j. slice_index bytes (slice_index places j)) (length places)

-- what stands of a segment of c bytes, of which `byte` tells each; where it ends the segment has zeros
pub record IsPart (c : ℕ) (byte : ℕ → ℕ) (part : List ℕ) : Type 0 where
  pub value : (b : ℕ) → b < c → slice_index part b ≡ byte b
  pub small : IsBytes part

-- the same of the members at these places
pub record AreParts (c : ℕ) (byte : ℕ → ℕ → ℕ) (places : List ℕ) (parts : List (List ℕ)) : Type 0 where
  pub size : length parts ≡ length places
  pub each : (j : ℕ) → j < length places → IsPart c (byte (slice_index places j)) (slice_index_or parts j [])

-- so many bytes more, each the sum of the parts' at its place, times their factors
pub record AppendsSum (len : ℕ) (factors : List ℕ) (parts : List (List ℕ)) (old new : List ℕ) : Type 0 where
  pub size : length new ≡ length old + len
  pub front : (b : ℕ) → b < length old → slice_index new b ≡ slice_index old b
  pub sum : (b : ℕ) → b < len
      → slice_index new (length old + b) ≡ weighted_sum (slice_index factors) (λ j. slice_index (slice_index_or parts j []) b) (length factors)

-- member m has data in stripe s
abbrev pub has_data : (n p s m : ℕ) → Bool
has_data n p s m = not (holds_parity n p s m)

-- member m isn't lost
abbrev pub is_there : List (Option Held) → ℕ → Bool
is_there members m = not (is_lost members m)

-- so many bytes more, each the target's in every column that has the bytes of the members that are there
pub record AppendsCode (scheme : Scheme) (n target len : ℕ) (there : ℕ → Bool) (byte : ℕ → ℕ → ℕ) (old new : List ℕ) : Type 0 where
  pub size : length new ≡ length old + len
  pub front : (b : ℕ) → b < length old → slice_index new b ≡ slice_index old b
  pub value : (b : ℕ) → b < len → (bytes : List ℕ) → length bytes ≡ n → IsCodeColumn scheme bytes
      → ((m : ℕ) → m < n → there m ≡ true → slice_index bytes m ≡ byte m b) → slice_index new (length old + b) ≡ slice_index bytes target

-- the byte at b of what is known of member m's data in stripe s, where the data segments are listed by ascending member
abbrev pub data_byte : (n p s : ℕ) → List (List ℕ) → (m b : ℕ) → ℕ
data_byte n p s segments m b = slice_index (slice_index_or segments (length (filter (has_data n p s) (numbers_below m))) []) b

-- a segment of c bytes, each the target's in every column that has the bytes of the members that are there
pub record IsCodeSegment (scheme : Scheme) (n target c : ℕ) (there : ℕ → Bool) (byte : ℕ → ℕ → ℕ) (segment : List ℕ) : Type 0 where
  pub size : length segment ≡ c
  pub value : (b : ℕ) → b < c → (bytes : List ℕ) → length bytes ≡ n → IsCodeColumn scheme bytes
      → ((m : ℕ) → m < n → there m ≡ true → slice_index bytes m ≡ byte m b) → slice_index segment b ≡ slice_index bytes target
