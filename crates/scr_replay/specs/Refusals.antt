-- Which texts are refused, and the line that says so.
use Rattle.std.specs.Prelude.{ℕ, ◌++◌, ◌∷◌, [], List, codes, decimal, Option, Some, None, Result, Ok, Err, if◌then◌else◌}
use Rattle.script_reader.specs.Reasons.{reason_number}
use Rattle.script_reader.specs.Grammar.{Job, Fault, script_of}
use Rattle.scr_replay.specs.Forms.{is_built}
use Rattle.scr_replay.specs.declared.refusal.Refusal.{Refusal}

-- a script that isn't built
abbrev pub unbuilt : Refusal
unbuilt = record { line = 0; reason = 15 }

-- why a reading is refused: its fault, or that its script isn't built; none where it is
abbrev pub refusal_of_read : Result Job Fault → Option Refusal
refusal_of_read (Err f) = Some (record { line = f.line; reason = reason_number f.reason })
refusal_of_read (Ok job) = if is_built job then None else Some unbuilt

-- why a text is refused, if it is
abbrev pub refusal_of : List ℕ → Option Refusal
refusal_of text = refusal_of_read (script_of text)

-- what is printed
abbrev pub refusal_line : Refusal → List ℕ
refusal_line r = codes "refused line " ++ decimal r.line ++ codes " reason " ++ decimal r.reason ++ 10 ∷ []
