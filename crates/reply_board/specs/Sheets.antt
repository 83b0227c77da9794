-- What contracts see of a board of replies.
use Rattle.std.specs.Prelude.{◌≡◌, ◌+◌, ◌-◌, ◌*◌, ◌≤◌, ◌<◌, ℕ, List, Some, slice_get}
use Rattle.std.specs.Option.{unwrap_or}
use Rattle.scr_base.specs.declared.answers.Reply.{Reply}
use Rattle.once_cell.specs.declared.race.note.Note.{Note}

-- the size of the board, and its cells by their names, the steps of a rank side by side
pub record Sheet : Type 0 where
  pub ranks : ℕ
  pub steps : ℕ
  pub cells : List ℕ

-- the board has this place
pub record IsPlace (sheet : Sheet) (rank step : ℕ) : Type 0 where
  pub rank_in : rank < sheet.ranks
  pub first : 1 ≤ step
  pub last : step ≤ sheet.steps

-- the name of the cell of a rank's step
abbrev pub cell_at : Sheet → ℕ → ℕ → ℕ
cell_at sheet rank step = unwrap_or (slice_get sheet.cells (rank * sheet.steps + (step - 1))) 0

-- the note is of this cell, and this reply stands there
pub record Knows (cell : ℕ) (reply : Reply) (note : Note Reply) : Type 0 where
  pub cell_is : note.cell ≡ cell
  pub known : note.known ≡ Some reply
