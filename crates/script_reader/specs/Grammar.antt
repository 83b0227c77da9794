-- Which scripts a text has, and why a text has none.
use Rattle.std.specs.Prelude.{ℕ, ◌≡◌, ◌+◌, ◌==◌, nat_lt, List, [], ◌∷◌, length, Result, Ok, Err, if◌then◌else◌}
use denote.Ref.{Bor}
use Rattle.scr_base.specs.declared.shape.Scheme.{Scheme}
use Rattle.script_reader.specs.declared.script.Script.{Script}
use Rattle.script_reader.specs.declared.script.Item.{Item}
use Rattle.script_reader.specs.declared.reason.Reason.{Reason}
use Rattle.script_reader.specs.declared.reason.Reason.TheVariants as reason
use Rattle.script_reader.specs.declared.reason.LineError.{LineError}
use Rattle.script_reader.specs.declared.reason.LineError.TheVariants as line_errors
use Rattle.script_reader.specs.declared.reading.ScriptError.{ScriptError}
use Rattle.script_reader.specs.declared.reading.ScriptError.TheVariants as errors
use Rattle.script_reader.specs.Reasons.{◌>>=◌, reason_number}
use Rattle.script_reader.specs.Words.{pieces_of}
use Rattle.script_reader.specs.Values.{Size, size_of as size_of_shape}
use Rattle.script_reader.specs.Settings.{scheme_of, size_of, cache_of, flush_of, interval_of, fits}
use Rattle.script_reader.specs.Progress.{Progress, start, is_before, is_open, after_line}

-- a script, by its numbers
pub record Job : Type 0 where
  pub site : Size
  pub scheme : Scheme
  pub size : ℕ
  pub cache : ℕ
  pub flush : ℕ
  pub interval : ℕ
  pub items : List Item

abbrev pub job_of : Script → Job
job_of s = record {
  site = size_of_shape s.shape;
  scheme = s.config.scheme;
  size = s.config.size;
  cache = s.config.cache;
  flush = s.config.flush;
  interval = s.config.interval;
  items = s.items;
}

-- the line, counted from 1, and the reason
pub record Fault : Type 0 where
  pub line : ℕ
  pub reason : Reason

abbrev pub fault : ℕ → Reason → Fault
fault line reason = record { line = line; reason = reason }

-- ## The end of the text

-- the script of what was read
abbrev pub job : Progress → Job
job p = record {
  site = p.site;
  scheme = scheme_of p.settings;
  size = size_of p.settings;
  cache = cache_of p.settings;
  flush = flush_of p.settings;
  interval = interval_of p.settings;
  items = p.items;
}

-- there was a site, no run is open, and the scheme fits the groups
unfoldable pub ended : Progress → Result Job Reason
ended p =
    if is_before p.stage then Err reason.NoSite
    else if is_open p.stage then Err reason.Order
    else if fits p.settings p.site.nodes then Ok (job p)
    else Err reason.Scheme

-- ## Line after line

-- a reason, at a line
abbrev pub at_line : {A : Type 0} → ℕ → Result A Reason → Result A Fault
at_line line (Ok x) = Ok x
at_line line (Err why) = Err (fault line why)

-- the lines from a number on; what stands behind the last line feed is no line, and there is nothing
unfoldable pub lines_read : ℕ → Progress → List (List ℕ) → Result Job Fault
lines_read number p [] = at_line number (ended p)
lines_read number p (rest ∷ []) = if length rest == 0 then at_line number (ended p) else Err (fault number reason.Unended)
lines_read number p (line ∷ next ∷ more) = at_line number (after_line p line) >>= λ q. lines_read (number + 1) q (next ∷ more)

-- the script of a text, or its first fault
unfoldable pub script_of : List ℕ → Result Job Fault
script_of text =
    if nat_lt 4194304 (length text) then Err (fault 0 reason.Limit) else lines_read 1 start (pieces_of 10 text)

-- the reading stops at this line, for the reason of this number
abbrev pub Refuses : {A : Type 0} → Result A Fault → ℕ → ℕ → Type 0
Refuses (Ok x) line number = ⊥
Refuses (Err f) line number = (line ≡ f.line) × (number ≡ reason_number f.reason)

-- the error is the reading's fault; but for want of memory
abbrev pub IsFault : {A : Type 0} → ScriptError → Result A Fault → Type 0
IsFault (errors.Fault line number) read = Refuses read line number
IsFault errors.Memory read = Unit {0}

-- what is answered for a reading: its script, or its fault; but for want of memory
abbrev pub Answers : Result Job Fault → Result Script ScriptError → Type 0
Answers read (Ok script) = read ≡ Ok (job_of script)
Answers read (Err e) = IsFault e read

-- what is answered for a text
abbrev pub IsRead : List ℕ → Result Script ScriptError → Type 0
IsRead text result = Answers (script_of text) result

-- ## The parts of the reader

-- what the end of the text gives
abbrev pub IsEnded : Progress → Result Script Reason → Type 0
IsEnded p (Ok script) = ended p ≡ Ok (job_of script)
IsEnded p (Err why) = ended p ≡ Err why

-- the error of a line
abbrev pub error_at : ℕ → LineError → ScriptError
error_at line (line_errors.Refused why) = errors.Fault line (reason_number why)
error_at line line_errors.Memory = errors.Memory

-- the lines that end were read, and what stands behind them is left; or the error is the text's
abbrev pub ReadsLines : List ℕ → Progress → Progress → Result (ℕ × Bor (List ℕ)) ScriptError → Type 0
ReadsLines text old new (Ok x) = lines_read 1 old (pieces_of 10 text) ≡ lines_read x.0 new (x.1.now ∷ [])
ReadsLines text old new (Err e) = IsFault e (lines_read 1 old (pieces_of 10 text))
