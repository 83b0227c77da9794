-- What a text of a history is read as, and where a text stops to be a history's.
use Rattle.std.specs.Prelude.{◌≡◌, ℕ, ◌+◌, ◌<◌, List, ◌∷◌, ◌++◌, All, Result, Ok, Err, length}
use Rattle.ckpt_model.specs.Track.{Track}
use Rattle.ckpt_model.specs.declared.event.Event.{Event}
use Rattle.ckpt_model.specs.Text.{text_of, history_text}
use Rattle.history_reader.specs.declared.fault.Fault.{Fault}
use Rattle.history_reader.specs.declared.fault.Fault.TheVariants as fault
use Rattle.history_reader.specs.declared.parsing.HistoryError.{HistoryError}
use Rattle.history_reader.specs.declared.parsing.HistoryError.TheVariants.{Bad, Memory}
use Rattle.history_reader.specs.Spelled.{IsPrintable}

-- the answer is the history of these events, unless memory is wanting
abbrev pub Answers : List Event → Result Track HistoryError → Type 0
Answers events (Ok history) = history.events ≡ events
Answers events (Err (Bad line)) = ⊥
Answers events (Err Memory) = Unit {0}

-- the lines before are the text of events, and what follows them doesn't begin with the line of an event
pub record IsBadAfter (bytes : List ℕ) (events : List Event) (rest : List ℕ) (line : ℕ) : Type 0 where
  pub before : bytes ≡ history_text events ++ rest
  pub printable : All IsPrintable events
  pub more : 0 < length rest
  pub no_event : (e : Event) (others : List ℕ) → IsPrintable e → rest ≡ text_of e ++ 10 ∷ others → ⊥
  pub line_is : line ≡ length events + 1

-- the line is the first that is no event's text
abbrev pub IsBadAt : List ℕ → HistoryError → Type 0
IsBadAt bytes (Bad line) = (events : List Event) × (rest : List ℕ) × IsBadAfter bytes events rest line
IsBadAt bytes Memory = Unit {0}

-- the answer is this line, unless memory is wanting
abbrev pub AnswersBad : ℕ → Result Track HistoryError → Type 0
AnswersBad line (Ok history) = ⊥
AnswersBad line (Err (Bad found)) = found ≡ line
AnswersBad line (Err Memory) = Unit {0}

-- the error of a line behind so many
abbrev pub IsErrorOf : Fault → ℕ → HistoryError → Type 0
IsErrorOf fault.Bad lines error = error ≡ Bad (lines + 1)
IsErrorOf fault.Memory lines error = error ≡ Memory
