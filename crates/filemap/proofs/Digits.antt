-- Two digits ascend as their numbers do.
use Rattle.std.proofs.Common.{◌≡◌, ℕ, ◌<◌, ◌+◌, ◌/◌, ◌%◌, [], ◌∷◌, refl, arith, inl, inr}
use Rattle.std.specs.Ordering.{nat_cmp}
use Rattle.std.specs.declared.cmp.Ordering.TheVariants.{Less, Equal}
use Rattle.std.proofs.lemmas.Bool.{cases_lt}
use Rattle.std.proofs.lemmas.Bool.Decides.{nat_tests}
use Rattle.kvtree.specs.Entries.{key_order, IsKey}
use Rattle.filemap.specs.Numbered.{two_digits}

less : (a b : ℕ) → a < b → nat_cmp a b ≡ Less
less a b h = grind (arith, nat_tests)

same : (a b : ℕ) → a ≡ b → nat_cmp a b ≡ Equal
same a b h = grind (arith, nat_tests)

less_first : (a b c d : ℕ) → a < c → key_order (a ∷ b ∷ []) (c ∷ d ∷ []) ≡ Less
less_first a b c d h = rw (less a c h) refl

less_second : (a b c d : ℕ) → a ≡ c → b < d → key_order (a ∷ b ∷ []) (c ∷ d ∷ []) ≡ Less
less_second a b c d e h = rw (same a c e) (rw (less b d h) refl)

pub digits_less : (m n : ℕ) → m < n → n < 100 → key_order (two_digits m) (two_digits n) ≡ Less
digits_less m n h small =
    elim (cases_lt (m / 10) (n / 10)) [
      | inl tens ↦ less_first (48 + m / 10) (48 + m % 10) (48 + n / 10) (48 + n % 10) (omega arith)
      | inr tens ↦ less_second (48 + m / 10) (48 + m % 10) (48 + n / 10) (48 + n % 10) (omega arith) (omega arith)
    ]

pub digits_are_key : (n : ℕ) → IsKey (two_digits n)
digits_are_key n = (omega arith, omega arith)
