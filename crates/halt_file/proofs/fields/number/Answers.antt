use Rattle.std.proofs.Common.{arith, true, bytes_eq, ◌≡◌, decimal, sym, Ok, subst, ◌∙◌, ap}
use Rattle.std.specs.Str.{IsUtf8}
use Rattle.std.proofs.lemmas.Str.{IsUtf8-from_ascii}
use Rattle.std.proofs.lemmas.Fmt.{IsAscii-decimal, parse-decimal}
use Rattle.halt_file.proofs.Numbers.{same_bytes, are_same, number_is, number_none}
use Rattle.halt_file.proofs.fields.number.Goals as goal

-- a decimal form is text
pub returns-in_default : goal.returns-in_default
returns-in_default c = sym (number_none c.args.digits.now (λ n fits is.
    let text : IsUtf8 c.args.digits.now = subst IsUtf8 (sym is) (IsUtf8-from_ascii (decimal n) (IsAscii-decimal n (omega arith))) in
    c.in_default.ensures.cases.0 text))

-- and is parsed
pub returns-in_default-parse : goal.returns-in_default-parse
returns-in_default-parse c = sym (number_none c.args.digits.now (λ n fits is.
    c.in_default-parse.not-Ok n (parse-decimal 64 n c.in-Ok.text.now c.parse.result fits (omega arith) (c.in-Ok.ensures.cases.0 ∙ is) c.parse.ensures.value.0)))

-- and printed again
pub returns-then-eq : goal.returns-then-eq
returns-then-eq c =
    let spelled : c.args.digits.now ≡ decimal c.in-Ok-parse.number = sym (are_same c.as_bytes.result.now c.args.digits.now (sym c.eq.ensures ∙ c.if-eq.true)) ∙ c.as_bytes.ensures.value ∙ c.format.ensures.text in
    sym (number_is c.args.digits.now c.in-Ok-parse.number spelled (omega arith))

pub returns-else-eq : goal.returns-else-eq
returns-else-eq c = sym (number_none c.args.digits.now (λ n fits is.
    let parsed : c.parse.result ≡ Ok n = parse-decimal 64 n c.in-Ok.text.now c.parse.result fits (omega arith) (c.in-Ok.ensures.cases.0 ∙ is) c.parse.ensures.value.0 in
    let number : c.in-Ok-parse.number ≡ n = cc in
    let same : c.as_bytes.result.now ≡ c.args.digits.now = c.as_bytes.ensures.value ∙ c.format.ensures.text ∙ ap decimal number ∙ sym is in
    let yes : bytes_eq c.as_bytes.result.now c.args.digits.now ≡ true = same_bytes c.as_bytes.result.now c.args.digits.now same in
    absurd cc))
