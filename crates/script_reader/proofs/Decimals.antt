-- Numbers are their decimal forms.
use Rattle.std.proofs.Common.{◌≡◌, ℕ, ◌+◌, ◌*◌, ◌-◌, ◌^◌, ◌<◌, ◌≤◌, List, true, Some, decimal, arith, rules, sym, refl}
use Rattle.std.specs.Prelude.{min}
use Rattle.std.specs.List.{fold, list_all}
use Rattle.std.proofs.lemmas.Str.Parse.{IsNumeralModel, numerals_by_fold}
use Rattle.decimal.proofs.Laws.{in_again, in_says}
use Rattle.script_reader.specs.Numbers.{is_digit, number_in, IsDecimalIn}

abbrev pub value : List ℕ → ℕ
value w = fold (λ n b. 10 * n + (b - 48)) 0 w

pub own : IsNumeralModel (λ ds. list_all is_digit ds ≡ true) value
own = numerals_by_fold (λ ds. list_all is_digit ds ≡ true) (search rules) (λ n ds. fold (λ m b. 10 * m + (b - 48)) n ds) (search rules)

pub read_is_decimal : (low high n : ℕ) (w : List ℕ) → number_in low high w ≡ Some n → IsDecimalIn low high w n
unfolding number_in
read_is_decimal low high n w e =
    let is = in_says low (min high 9999999999) n w e in
    let below : n ≤ min high 9999999999 = is.below in
    record { above = is.above; below = omega arith; short = omega arith; spelled = is.digits.spelled }

pub decimal_is_read : (low high n : ℕ) (w : List ℕ) → IsDecimalIn low high w n → number_in low high w ≡ Some n
unfolding number_in
decimal_is_read low high n w is =
    let below : n ≤ high = is.below in
    let short : n ≤ 9999999999 = is.short in
    rw is.spelled (in_again low (min high 9999999999) n is.above (omega arith) (omega arith))
