-- Small facts about tests, and about tests of each byte of a word.
use Rattle.std.proofs.Common.{◌≡◌, ℕ, zero, suc, ◌<◌, ◌≤◌, List, [], ◌∷◌, ◌++◌, Bool, true, false, refl, length, get_or, arith, ◌&&◌}
use Rattle.std.specs.Prelude.{◌==◌, not, nat_le, nat_lt}
use Rattle.std.specs.List.{list_all, All}
use Rattle.std.proofs.lemmas.Bool.Decides.{nat_tests}
use Rattle.std.proofs.lemmas.List.Elements.{All-from_get_or}

pub left_true : (a b : Bool) → (a && b) ≡ true → a ≡ true
left_true true b e = refl
left_true false b e = e

pub right_true : (a b : Bool) → (a && b) ≡ true → b ≡ true
right_true true b e = e
right_true false b e = cc

pub and_false : (b : Bool) → (b && false) ≡ false
and_false true = refl
and_false false = refl

pub le_is : (a b : ℕ) → nat_le a b ≡ true → a ≤ b
le_is a b e = grind arith

pub le_says : (a b : ℕ) → a ≤ b → nat_le a b ≡ true
le_says a b h = grind arith

pub lt_says : (a b : ℕ) → a < b → nat_lt a b ≡ true
lt_says a b h = grind (arith, nat_tests)

-- ## Each byte of a word

pub at_each : (p : ℕ → Bool) (w : List ℕ) (i : ℕ) → list_all p w ≡ true → i < length w → p (get_or w i 0) ≡ true
at_each p [] i e lt = absurd (omega arith)
at_each p (b ∷ w) zero e lt = left_true (p b) (list_all p w) e
at_each p (b ∷ w) (suc i) e lt = at_each p w i (right_true (p b) (list_all p w) e) (omega arith)

-- no byte is c, where none that passes is
pub none_is : (c : ℕ) (p : ℕ → Bool) → ((b : ℕ) → p b ≡ true → (b == c) ≡ false) → (w : List ℕ) → list_all p w ≡ true → All (λ b. (b == c) ≡ false) w
none_is c p other w e = All-from_get_or (λ b. (b == c) ≡ false) w 0 (λ i lt. other (get_or w i 0) (at_each p w i e lt))

pub all_weaker : (p q : ℕ → Bool) → ((b : ℕ) → p b ≡ true → q b ≡ true) → (w : List ℕ) → list_all p w ≡ true → list_all q w ≡ true
all_weaker p q h [] e = refl
all_weaker p q h (b ∷ w) e = rw (h b (left_true (p b) (list_all p w) e), all_weaker p q h w (right_true (p b) (list_all p w) e)) refl

pub all_append : (p : ℕ → Bool) (xs ys : List ℕ) → list_all p xs ≡ true → list_all p ys ≡ true → list_all p (xs ++ ys) ≡ true
all_append p [] ys e f = f
all_append p (x ∷ xs) ys e f = rw (left_true (p x) (list_all p xs) e, all_append p xs ys (right_true (p x) (list_all p xs) e) f) refl
