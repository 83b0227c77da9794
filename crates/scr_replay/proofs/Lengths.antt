-- A text that is too long is refused.
use Rattle.std.proofs.Common.{◌≡◌, ℕ, ◌+◌, ◌<◌, nat_lt, true, List, ◌++◌, length, Option, Some, None, IfSome, refl, sym, arith, subst, length-append}
use Rattle.std.proofs.lemmas.Bool.Decides.{nat_tests}
use Rattle.scr_base.specs.Streams.{Leaves}
use Rattle.script_reader.specs.Grammar.{script_of}
use Rattle.scr_replay.specs.declared.refusal.Refusal.{Refusal}
use Rattle.scr_replay.specs.Statuses.{IsRefusedAs}
use Rattle.scr_replay.specs.Inputs.{longest_text}

abbrev pub too_long : Refusal
too_long = record { line = 0; reason = 11 }

is_above : (n : ℕ) → 4194304 < n → nat_lt 4194304 n ≡ true
is_above n h = grind (arith, nat_tests)

refused : (text : List ℕ) → 4194304 < length text → IsRefusedAs too_long text
unfolding script_of
refused text long = rw (is_above (length text) long) refl

-- what has more bytes than the longest text is refused
pub long_refused : (before after : Option (List ℕ)) (text : List ℕ) → length text ≡ longest_text + 1 → Leaves before after text → IfSome before (IsRefusedAs too_long)
long_refused before None text long left = subst (λ (o : Option (List ℕ)). IfSome o (IsRefusedAs too_long)) (sym left) tt
long_refused before (Some rest) text long left =
    subst (λ (o : Option (List ℕ)). IfSome o (IsRefusedAs too_long)) (sym left) (refused (text ++ rest) (omega (arith, length-append text rest)))
