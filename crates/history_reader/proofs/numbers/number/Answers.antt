use Rattle.std.proofs.Common.{arith, true, bytes_eq, ◌≡◌, decimal, sym, Ok, subst, ◌∙◌, ap}
use Rattle.std.specs.Str.{IsUtf8}
use Rattle.std.proofs.lemmas.Str.{IsUtf8-from_ascii}
use Rattle.std.proofs.lemmas.Fmt.{IsAscii-decimal, parse-decimal}
use Rattle.history_reader.proofs.NumberLaws.{same_bytes, are_same, number_is, number_none}
use Rattle.history_reader.proofs.numbers.number.Goals as goal

-- a decimal form is text
pub returns-in_default-clause-gives : goal.returns-in_default-clause-gives
returns-in_default-clause-gives c = sym (number_none c.args.digits.now (λ n fits is.
    let text : IsUtf8 c.args.digits.now = subst IsUtf8 (sym is) (IsUtf8-from_ascii (decimal n) (IsAscii-decimal n (omega arith))) in
    c.in_default.ensures.cases.0 text))

-- and is parsed
pub returns-in_default-parse-clause-gives : goal.returns-in_default-parse-clause-gives
returns-in_default-parse-clause-gives c = sym (number_none c.args.digits.now (λ n fits is.
    c.in_default-parse.not-Ok n (parse-decimal 64 n c.in-Ok.text.now c.parse.result fits (omega arith) (c.in-Ok.ensures.cases.0 ∙ is) c.parse.ensures.value.0)))

-- and printed again
pub returns-then-is-clause-gives : goal.returns-then-is-clause-gives
returns-then-is-clause-gives c =
    let shown : bytes_eq c.as_bytes.result.now c.args.digits.now ≡ true = sym c.is.ensures ∙ c.if-is.true in
    let spelled : c.args.digits.now ≡ decimal c.in-Ok-parse.number = sym (are_same c.as_bytes.result.now c.args.digits.now shown) ∙ c.as_bytes.ensures.value ∙ c.format.ensures.text in
    sym (number_is c.args.digits.now c.in-Ok-parse.number spelled (omega arith))

pub returns-else-is-clause-gives : goal.returns-else-is-clause-gives
returns-else-is-clause-gives c = sym (number_none c.args.digits.now (λ n fits is.
    let parsed : c.parse.result ≡ Ok n = parse-decimal 64 n c.in-Ok.text.now c.parse.result fits (omega arith) (c.in-Ok.ensures.cases.0 ∙ is) c.parse.ensures.value.0 in
    let number : c.in-Ok-parse.number ≡ n = cc in
    let same : c.as_bytes.result.now ≡ c.args.digits.now = c.as_bytes.ensures.value ∙ c.format.ensures.text ∙ ap decimal number ∙ sym is in
    let yes : bytes_eq c.as_bytes.result.now c.args.digits.now ≡ true = same_bytes c.as_bytes.result.now c.args.digits.now same in
    absurd cc))
