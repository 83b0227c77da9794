-- A number is told exactly where the bytes are its decimal form.
use Rattle.std.proofs.Common.{◌≡◌, ◌≢◌, ℕ, ◌<◌, ◌^◌, ◌&&◌, ltb, cond, Bool, true, false, List, Some, None, refl, sym, arith, decimal, bytes_eq}
use Rattle.std.specs.Str.Parse.{digits_value}
use Rattle.std.proofs.lemmas.Bool.Decides.{nat_tests}
use Rattle.std.proofs.lemmas.Fmt.{decimal_is_IsNumeral}
use Rattle.std.proofs.lemmas.Slice.Eq.{bytes_eq-Decides}
use Rattle.halt_file.specs.Payloads.{number_of}

pub same_bytes : (xs ys : List ℕ) → xs ≡ ys → bytes_eq xs ys ≡ true
same_bytes xs ys e = grind (arith, bytes_eq-Decides)

pub are_same : (xs ys : List ℕ) → bytes_eq xs ys ≡ true → xs ≡ ys
are_same xs ys e = grind (arith, bytes_eq-Decides)

pub is_below : (n m : ℕ) → n < m → ltb n m ≡ true
is_below n m lt = grind (arith, nat_tests)

pub below_is : (n m : ℕ) → ltb n m ≡ true → n < m
below_is n m e = grind (arith, nat_tests)

both_are : (a b : Bool) → (a && b) ≡ true → (a ≡ true) × (b ≡ true)
both_are true true e = (refl, refl)
both_are true false e = absurd (cc e)
both_are false b e = absurd (cc e)

pub number_again : (n : ℕ) → n < 2 ^ 64 → number_of (decimal n) ≡ Some n
unfolding number_of
number_again n lt =
    let value : digits_value 10 (decimal n) ≡ n = (decimal_is_IsNumeral n lt).1 in
    rw (value, same_bytes (decimal n) (decimal n) refl, is_below n (2 ^ 64) lt) refl

pub number_is : (ds : List ℕ) (n : ℕ) → ds ≡ decimal n → n < 2 ^ 64 → number_of ds ≡ Some n
number_is ds n e lt = rw e (number_again n lt)

pub number_none : (ds : List ℕ) → ((n : ℕ) → n < 2 ^ 64 → ds ≢ decimal n) → number_of ds ≡ None
unfolding number_of
number_none ds none = by_test (bytes_eq (decimal (digits_value 10 ds)) ds && ltb (digits_value 10 ds) (2 ^ 64)) refl
  where
    by_test : (t : Bool) → (bytes_eq (decimal (digits_value 10 ds)) ds && ltb (digits_value 10 ds) (2 ^ 64)) ≡ t → cond t (Some (digits_value 10 ds)) None ≡ None
    by_test false e = refl
    by_test true e =
        let p = both_are (bytes_eq (decimal (digits_value 10 ds)) ds) (ltb (digits_value 10 ds) (2 ^ 64)) e in
        absurd (none (digits_value 10 ds) (below_is (digits_value 10 ds) (2 ^ 64) p.1) (sym (are_same (decimal (digits_value 10 ds)) ds p.0)))
