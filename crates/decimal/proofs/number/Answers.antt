use Rattle.std.proofs.Common.{arith, true, bytes_eq, ◌≡◌, decimal, sym, Ok, subst, ◌∙◌, ap}
use Rattle.std.specs.Str.{IsUtf8}
use Rattle.std.proofs.lemmas.Str.{IsUtf8-from_ascii}
use Rattle.std.proofs.lemmas.Fmt.{IsAscii-decimal, parse-decimal}
use Rattle.decimal.proofs.Laws.{same_bytes, are_same, number_is, number_none}
use Rattle.decimal.proofs.number.Goals as goal

-- a decimal form is text
pub returns-in_default-clause-spelled : goal.returns-in_default-clause-spelled
returns-in_default-clause-spelled c = λ n fits is.
    let text : IsUtf8 c.args.digits.now = subst IsUtf8 (sym is) (IsUtf8-from_ascii (decimal n) (IsAscii-decimal n (omega arith))) in
    c.in_default.ensures.cases.0 text

pub returns-in_default-clause-number : goal.returns-in_default-clause-number
returns-in_default-clause-number c = sym (number_none c.args.digits.now (returns-in_default-clause-spelled c))

-- and is parsed
pub returns-in_default-parse-clause-spelled : goal.returns-in_default-parse-clause-spelled
returns-in_default-parse-clause-spelled c = λ n fits is.
    c.in_default-parse.not-Ok n (parse-decimal 64 n c.in-Ok.text.now c.parse.result fits (omega arith) (c.in-Ok.ensures.cases.0 ∙ is) c.parse.ensures.value.0)

pub returns-in_default-parse-clause-number : goal.returns-in_default-parse-clause-number
returns-in_default-parse-clause-number c = sym (number_none c.args.digits.now (returns-in_default-parse-clause-spelled c))

-- and printed again
pub returns-then-eq-clause-number : goal.returns-then-eq-clause-number
returns-then-eq-clause-number c =
    let spelled : c.args.digits.now ≡ decimal c.in-Ok-parse.number = sym (are_same c.as_bytes.result.now c.args.digits.now (sym c.eq.ensures ∙ c.if-eq.true)) ∙ c.as_bytes.ensures.value ∙ c.format.ensures.text in
    sym (number_is c.args.digits.now c.in-Ok-parse.number spelled (omega arith))

pub returns-else-eq-clause-spelled : goal.returns-else-eq-clause-spelled
returns-else-eq-clause-spelled c = λ n fits is.
    let parsed : c.parse.result ≡ Ok n = parse-decimal 64 n c.in-Ok.text.now c.parse.result fits (omega arith) (c.in-Ok.ensures.cases.0 ∙ is) c.parse.ensures.value.0 in
    let number : c.in-Ok-parse.number ≡ n = cc in
    let same : c.as_bytes.result.now ≡ c.args.digits.now = c.as_bytes.ensures.value ∙ c.format.ensures.text ∙ ap decimal number ∙ sym is in
    let yes : bytes_eq c.as_bytes.result.now c.args.digits.now ≡ true = same_bytes c.as_bytes.result.now c.args.digits.now same in
    absurd cc

pub returns-else-eq-clause-number : goal.returns-else-eq-clause-number
returns-else-eq-clause-number c = sym (number_none c.args.digits.now (returns-else-eq-clause-spelled c))
