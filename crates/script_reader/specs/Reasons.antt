-- The reasons for which a line is refused, and functions that give a value or the first reason.
use Rattle.std.specs.Prelude.{ℕ, ◌≡◌, Result, Ok, Err, Option, Some, None}
use Rattle.script_reader.specs.declared.reason.Reason.{Reason}
use Rattle.script_reader.specs.declared.reason.Reason.TheVariants as reason
use Rattle.script_reader.specs.declared.reason.LineError.{LineError}
use Rattle.script_reader.specs.declared.reason.LineError.TheVariants as errors

-- the number by which a reason is reported
abbrev pub reason_number : Reason → ℕ
reason_number reason.Form = 1
reason_number reason.Number = 2
reason_number reason.Word = 3
reason_number reason.NoSite = 4
reason_number reason.Repeated = 5
reason_number reason.Order = 6
reason_number reason.Rank = 7
reason_number reason.Node = 8
reason_number reason.Routes = 9
reason_number reason.FileEnd = 10
reason_number reason.Limit = 11
reason_number reason.Scheme = 12
reason_number reason.Byte = 13
reason_number reason.Unended = 14

-- the first value, then what follows from it; or the first reason
infixl 10 ◌>>=◌
abbrev pub ◌>>=◌ : {A B E : Type 0} → Result A E → (A → Result B E) → Result B E
(Ok x) >>= f = f x
(Err e) >>= f = Err e

-- the value, or that reason where there is none
abbrev pub or_reason : {A : Type 0} → Reason → Option A → Result A Reason
or_reason why None = Err why
or_reason why (Some x) = Ok x

-- nothing, or that reason where there is one
abbrev pub unless : Option Reason → Result Unit Reason
unless None = Ok tt
unless (Some why) = Err why

abbrev pub Fails : {Y : Type 0} → LineError → Result Y Reason → Type 0
Fails errors.Memory read = Unit {0}
Fails (errors.Refused why) read = read ≡ Err why

-- what a function answered, seen by view, is this; but for want of memory
abbrev pub Gives : {X Y : Type 0} → (X → Y) → Result X LineError → Result Y Reason → Type 0
Gives view (Ok x) read = read ≡ Ok (view x)
Gives view (Err e) read = Fails e read
