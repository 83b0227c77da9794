-- Stripes of segments whose byte columns are the values of polynomials at the places 0, 1, 2 ..
use Rattle.std.specs.Prelude.{◌≡◌, ◌≢◌, ℕ, ◌<◌, Bool, List, [], length, Option, None, IsSome, IfSome, is_some, unwrap_or, filter, slice_index, slice_index_or}
use Rattle.scr_base.specs.Sets.{numbers_below}
use Rattle.lane_kernels.specs.Columns.{column_at}
use Rattle.poly_code.specs.Polynomial.{value_at, IsBytes, AreDistinct, weighted_sum}
use Rattle.poly_code.specs.Code.{IsColumn, IsWeights}

-- a segment is known at this place
abbrev pub is_known : List (Option (List ℕ)) → ℕ → Bool
is_known known place = is_some (slice_index_or known place None)

-- the places of the known segments, ascending
abbrev pub known_places : List (Option (List ℕ)) → List ℕ
known_places known = filter (is_known known) (numbers_below (length known))

-- the segment known at this place, and no bytes where none is
abbrev pub segment_of : List (Option (List ℕ)) → ℕ → List ℕ
segment_of known place = unwrap_or (slice_index_or known place None) []

-- all known segments have one length
abbrev pub AreOfOneLength : List (Option (List ℕ)) → Type 0
AreOfOneLength known =
    (i j : ℕ) → i < length known → j < length known → IfSome (slice_index_or known i None) (λ s. IfSome (slice_index_or known j None) (λ t. length s ≡ length t))

-- this many segments are known, which are fewer than needed
abbrev pub IsShort : ℕ → List (Option (List ℕ)) → ℕ → Type 0
IsShort needed known count = (count ≡ length (known_places known)) × (count < needed)

-- segments of one length, each byte column of which is that of a polynomial with this many coefficients
pub record IsStripe (degree len : ℕ) (stripe : List (List ℕ)) : Type 0 where
  pub lengths : (i : ℕ) → i < length stripe → length (slice_index_or stripe i []) ≡ len
  pub columns : (b : ℕ) → b < len → IsColumn degree (column_at stripe b)

-- the stripe has one segment for each place, the known ones of the first `degree` known places among them
pub record IsCompleted (degree : ℕ) (known : List (Option (List ℕ))) (stripe : List (List ℕ)) : Type 0 where
  pub count : length stripe ≡ length known
  pub whole : (j : ℕ) → j < degree → IsStripe degree (length (segment_of known (slice_index (known_places known) j))) stripe
  pub kept : (j : ℕ) → j < degree → slice_index_or stripe (slice_index (known_places known) j) [] ≡ segment_of known (slice_index (known_places known) j)

-- the bytes are the values at the target of the polynomials that go through the bytes of the first `degree` known segments
pub record IsRebuilt (degree : ℕ) (known : List (Option (List ℕ))) (target : ℕ) (segment : List ℕ) : Type 0 where
  pub count : (j : ℕ) → j < degree → length segment ≡ length (segment_of known (slice_index (known_places known) j))
  pub value : (b : ℕ) → b < length segment → (coefs : List ℕ) → IsBytes coefs → length coefs ≡ degree
      → ((j : ℕ) → j < degree → value_at coefs (slice_index (known_places known) j) ≡ slice_index (segment_of known (slice_index (known_places known) j)) b)
      → slice_index segment b ≡ value_at coefs target

-- in each column of n bytes the target's is the sum of those at the places, each times its factor
pub record AreFactors (degree n : ℕ) (places : List ℕ) (target : ℕ) (factors : List ℕ) : Type 0 where
  pub size : length factors ≡ length places
  pub value : (bytes : List ℕ) → length bytes ≡ n → IsColumn degree bytes
      → slice_index bytes target ≡ weighted_sum (slice_index factors) (λ j. slice_index bytes (slice_index places j)) (length places)

-- the sum of the segments at these places, each times its weight for the target
pub record IsWeighed (known : List (Option (List ℕ))) (places : List ℕ) (target : ℕ) (segment : List ℕ) : Type 0 where
  pub weights : List ℕ
  pub right : IsWeights places target weights
  pub sum : (b : ℕ) → b < length segment
      → slice_index segment b ≡ weighted_sum (slice_index weights) (λ j. slice_index (segment_of known (slice_index places j)) b) (length places)

-- the segment at the target: a copy where it is known, and else a sum
pub record IsSegment (known : List (Option (List ℕ))) (places : List ℕ) (target : ℕ) (segment : List ℕ) : Type 0 where
  pub count : length segment ≡ length (segment_of known (slice_index places 0))
  pub copied : (j : ℕ) → j < length places → slice_index places j ≡ target → (segment ≡ segment_of known target) × IsBytes segment
  pub weighed : ((j : ℕ) → j < length places → slice_index places j ≢ target) → IsWeighed known places target segment

-- different places of known segments of one length
pub record ArePlaces (known : List (Option (List ℕ))) (places : List ℕ) : Type 0 where
  pub some : 0 < length places
  pub within : (j : ℕ) → j < length places → slice_index places j < length known
  pub known_there : (j : ℕ) → j < length places → IsSome (slice_index_or known (slice_index places j) None)
  pub distinct : AreDistinct places (length places)
  pub lengths : (j : ℕ) → j < length places → length (segment_of known (slice_index places j)) ≡ length (segment_of known (slice_index places 0))
