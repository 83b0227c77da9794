-- A number is read exactly where the bytes are its decimal form.
use Rattle.std.proofs.Common.{◌≡◌, ◌≢◌, ℕ, ◌<◌, ◌≤◌, ◌^◌, ◌&&◌, ltb, cond, Bool, true, false, List, Option, Some, None, refl, sym, ◌∙◌, ap, subst, arith, decimal, bytes_eq}
use Rattle.std.specs.Prelude.{nat_le, MatchOption}
use Rattle.std.specs.Str.Parse.{digits_value}
use Rattle.std.proofs.lemmas.Option.{cond_some}
use Rattle.std.proofs.lemmas.Bool.Decides.{nat_tests}
use Rattle.std.proofs.lemmas.Fmt.{decimal_is_IsNumeral}
use Rattle.std.proofs.lemmas.Slice.Eq.{bytes_eq-Decides}
use Rattle.decimal.specs.Numbers.{number_of, number_below, number_in, IsDecimalOf}

pub same_bytes : (xs ys : List ℕ) → xs ≡ ys → bytes_eq xs ys ≡ true
same_bytes xs ys e = grind (arith, bytes_eq-Decides)

pub are_same : (xs ys : List ℕ) → bytes_eq xs ys ≡ true → xs ≡ ys
are_same xs ys e = grind (arith, bytes_eq-Decides)

pub is_below : (n m : ℕ) → n < m → ltb n m ≡ true
is_below n m lt = grind (arith, nat_tests)

pub below_is : (n m : ℕ) → ltb n m ≡ true → n < m
below_is n m e = grind (arith, nat_tests)

pub both_are : (a b : Bool) → (a && b) ≡ true → (a ≡ true) × (b ≡ true)
both_are true true e = (refl, refl)
both_are true false e = absurd (cc e)
both_are false b e = absurd (cc e)

pub number_again : (n : ℕ) → n < 2 ^ 64 → number_of (decimal n) ≡ Some n
unfolding number_of
number_again n lt =
    let value : digits_value 10 (decimal n) ≡ n = (decimal_is_IsNumeral n lt).1 in
    rw (value, same_bytes (decimal n) (decimal n) refl, is_below n (2 ^ 64) lt) refl

pub number_is : (ds : List ℕ) (n : ℕ) → ds ≡ decimal n → n < 2 ^ 64 → number_of ds ≡ Some n
number_is ds n e lt = rw e (number_again n lt)

-- the digits of the number that is read
pub number_says : (ds : List ℕ) (n : ℕ) → number_of ds ≡ Some n → IsDecimalOf n ds
unfolding number_of
number_says ds n e =
    let chosen = cond_some (bytes_eq (decimal (digits_value 10 ds)) ds && ltb (digits_value 10 ds) (2 ^ 64)) (digits_value 10 ds) n e in
    let p = both_are (bytes_eq (decimal (digits_value 10 ds)) ds) (ltb (digits_value 10 ds) (2 ^ 64)) chosen.0 in
    let same : decimal (digits_value 10 ds) ≡ ds = are_same (decimal (digits_value 10 ds)) ds p.0 in
    let is : digits_value 10 ds ≡ n = chosen.1 in
    record {
      spelled = sym same ∙ ap decimal is;
      fits = subst (λ (m : ℕ). m < 2 ^ 64) is (below_is (digits_value 10 ds) (2 ^ 64) p.1);
    }

pub number_none : (ds : List ℕ) → ((n : ℕ) → n < 2 ^ 64 → ds ≢ decimal n) → number_of ds ≡ None
number_none ds none = by_answer (number_of ds) refl
  where
    by_answer : (o : Option ℕ) → number_of ds ≡ o → o ≡ None
    by_answer None e = refl
    by_answer (Some n) e = let is = number_says ds n e in absurd (none n is.fits is.spelled)

pub below_again : (limit n : ℕ) → n < limit → n < 2 ^ 64 → number_below limit (decimal n) ≡ Some n
unfolding number_below
below_again limit n lt fits = rw (number_again n fits, is_below n limit lt) refl

le_says : (a b : ℕ) → a ≤ b → nat_le a b ≡ true
le_says a b h = grind arith

pub in_again : (low high n : ℕ) → low ≤ n → n ≤ high → n < 2 ^ 64 → number_in low high (decimal n) ≡ Some n
unfolding number_in
in_again low high n above below fits = rw (number_again n fits, le_says low n above, le_says n high below) refl

-- what is read below a limit is spelled
below_is_spelled : (limit n : ℕ) (ds : List ℕ) → Some n ≡ number_below limit ds → ds ≡ decimal n
unfolding number_below
below_is_spelled limit n ds some = by_number (number_of ds) refl
  where
    by_number : (o : Option ℕ) → number_of ds ≡ o → ds ≡ decimal n
    by_number None e = let no : number_below limit ds ≡ None = rw e refl in absurd cc
    by_number (Some m) e =
        let read : number_below limit ds ≡ cond (ltb m limit) (Some m) None = rw e refl in
        let chosen = cond_some (ltb m limit) m n (sym read ∙ sym some) in
        (number_says ds m e).spelled ∙ ap decimal chosen.1

-- and where none is read, the digits are those of no number below it
pub below_says : (limit : ℕ) (ds : List ℕ) (o : Option ℕ) → o ≡ number_below limit ds → limit ≤ 2 ^ 64 → MatchOption o ((n : ℕ) → n < limit → ds ≢ decimal n) (λ n. ds ≡ decimal n)
below_says limit ds None none fits = λ n lt is.
    let some : number_below limit ds ≡ Some n = rw is (below_again limit n lt (omega arith)) in
    absurd cc
below_says limit ds (Some n) some fits = below_is_spelled limit n ds some

pub le_is : (a b : ℕ) → nat_le a b ≡ true → a ≤ b
le_is a b e = grind arith

-- a number that is read between two others, and its digits
pub record IsReadIn (low high n : ℕ) (ds : List ℕ) : Type 0 where
  pub above : low ≤ n
  pub below : n ≤ high
  pub digits : IsDecimalOf n ds

pub in_says : (low high n : ℕ) (ds : List ℕ) → number_in low high ds ≡ Some n → IsReadIn low high n ds
unfolding number_in
in_says low high n ds some = by_number (number_of ds) refl
  where
    by_number : (o : Option ℕ) → number_of ds ≡ o → IsReadIn low high n ds
    by_number None e = let no : number_in low high ds ≡ None = rw e refl in absurd cc
    by_number (Some m) e =
        let read : number_in low high ds ≡ cond (nat_le low m && nat_le m high) (Some m) None = rw e refl in
        let chosen = cond_some (nat_le low m && nat_le m high) m n (sym read ∙ some) in
        let tests = both_are (nat_le low m) (nat_le m high) chosen.0 in
        let is : m ≡ n = chosen.1 in
        let low_is : low ≤ m = le_is low m tests.0 in
        let high_is : m ≤ high = le_is m high tests.1 in
        record {
          above = omega arith;
          below = omega arith;
          digits = subst (λ (k : ℕ). IsDecimalOf k ds) is (number_says ds m e);
        }
