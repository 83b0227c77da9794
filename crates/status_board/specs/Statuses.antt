-- What contracts see of a status board and of its passes.
use Rattle.std.specs.Prelude.{◌≡◌, ◌+◌, ◌*◌, ◌/◌, ◌%◌, ◌^◌, ℕ, List, [], ◌∷◌, ◌++◌}
use Rattle.atomic_table.specs.Seated.{TableId}
use Rattle.status_board.specs.declared.status.Status.{Status}

-- nothing is settled, and nothing flushed
abbrev pub nothing_yet : Status
nothing_yet = record { settled = 0; flushed = 0 }

-- both numbers in one word
abbrev pub word_of : Status → ℕ
word_of status = status.settled * 2 ^ 32 + status.flushed

-- the status that a word stands for
abbrev pub status_of : ℕ → Status
status_of word = record { settled = word / 2 ^ 32; flushed = word % 2 ^ 32 }

-- the board of a pass, and the statuses that it has seen, in the order in which they were published
pub record Sight : Type 0 where
  pub board : TableId
  pub seen : List Status

-- this status is the list's last
pub record EndsWith (statuses : List Status) (status : Status) : Type 0 where
  pub before : List Status
  pub whole : before ++ status ∷ [] ≡ statuses
