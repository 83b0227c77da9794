-- Why a reply wasn't posted.
use Rattle.std.specs.Prelude.{ℕ, ◌≢◌}
use Rattle.scr_base.specs.declared.answers.Reply.{Reply}
use Rattle.reply_board.specs.declared.board.PostError.{PostError}
use Rattle.reply_board.specs.declared.board.PostError.TheVariants.{Other, Memory}
use Rattle.reply_board.specs.Sheets.{Knows}

-- another reply stands there, which the note knows; or there was no memory
abbrev pub IsRefusedPost : ℕ → Reply → PostError → Type 0
IsRefusedPost cell reply (Other note) = (stands : Reply) × Knows cell stands note × (stands ≢ reply)
IsRefusedPost cell reply Memory = Unit {0}
