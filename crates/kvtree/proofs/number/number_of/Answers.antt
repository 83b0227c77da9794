use Rattle.std.proofs.Common.{arith, true, List, bytes_eq, ◌≡◌, ℕ, decimal, sym, Ok, subst, ◌∙◌, ap}
use Rattle.std.specs.Str.{IsUtf8}
use Rattle.std.proofs.lemmas.Str.{IsUtf8-from_ascii}
use Rattle.std.proofs.lemmas.Fmt.{IsAscii-decimal, parse-decimal}
use Rattle.std.proofs.lemmas.Slice.Eq.{bytes_eq-Decides}
use Rattle.kvtree.proofs.number.number_of.Goals as goal

same_bytes : (xs ys : List ℕ) → xs ≡ ys → bytes_eq xs ys ≡ true
same_bytes xs ys e = grind (arith, bytes_eq-Decides)

-- a decimal form is text
pub returns-in_default : goal.returns-in_default
returns-in_default c = λ n fits is.
    let text : IsUtf8 c.args.bytes.now = subst IsUtf8 (sym is) (IsUtf8-from_ascii (decimal n) (IsAscii-decimal n (omega arith))) in
    c.in_default.ensures.cases.0 text

-- and is parsed
pub returns-in_default-parse : goal.returns-in_default-parse
returns-in_default-parse c = λ n fits is.
    c.in_default-parse.not-Ok n (parse-decimal 32 n c.in-Ok.text.now c.parse.result fits (omega arith) (c.in-Ok.ensures.cases.0 ∙ is) c.parse.ensures.value.0)

-- and printed again
pub returns-else-eq : goal.returns-else-eq
returns-else-eq c = λ n fits is.
    let parsed : c.parse.result ≡ Ok n = parse-decimal 32 n c.in-Ok.text.now c.parse.result fits (omega arith) (c.in-Ok.ensures.cases.0 ∙ is) c.parse.ensures.value.0 in
    let number : c.in-Ok-parse.number ≡ n = cc in
    let same : c.as_bytes.result.now ≡ c.args.bytes.now = c.as_bytes.ensures.value ∙ c.format.ensures.text ∙ ap decimal number ∙ sym is in
    let yes : bytes_eq c.as_bytes.result.now c.args.bytes.now ≡ true = same_bytes c.as_bytes.result.now c.args.bytes.now same in
    absurd cc
