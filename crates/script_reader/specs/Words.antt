-- The words of a line.
use Rattle.std.specs.Prelude.{ℕ, ◌+◌, ◌==◌, Bool, List, [], length, map, take, drop, position, slice_get, unwrap_or, bytes_eq, Option, Some, None, option_map}
use Rattle.std.specs.List.{slice_split, list_any}
use denote.Ref.{Bor}

-- what stands before, between and behind the bytes of a kind
unfoldable pub pieces_of : ℕ → List ℕ → List (List ℕ)
pieces_of byte text = slice_split (λ b. b == byte) text

-- what stands before and behind the first byte of a kind
unfoldable pub cut_at : ℕ → List ℕ → Option (List ℕ × List ℕ)
cut_at byte text = option_map (λ i. (take i text, drop (i + 1) text)) (position (λ b. b == byte) text)

-- the words of a line stand between blanks
abbrev pub words_of : List ℕ → List (List ℕ)
words_of line = pieces_of 32 line

-- the second part, or nothing
abbrev pub second_part : Option (List ℕ × List ℕ) → List ℕ
second_part None = []
second_part (Some parts) = parts.1

-- what stands behind the first blank
unfoldable pub behind_word : List ℕ → List ℕ
behind_word line = second_part (cut_at 32 line)

-- words without where they lie in memory
abbrev pub texts : List (Bor (List ℕ)) → List (List ℕ)
texts words = map (λ w. w.now) words

-- the word at a place, counted from 0
abbrev pub word_at : List (List ℕ) → ℕ → List ℕ
word_at words place = unwrap_or (slice_get words place) []

-- the word at a place is this one
abbrev pub has : List (List ℕ) → ℕ → List ℕ → Bool
has words place word = bytes_eq (word_at words place) word

abbrev pub is_empty : List ℕ → Bool
is_empty w = length w == 0

abbrev pub has_empty : List (List ℕ) → Bool
has_empty words = list_any is_empty words
