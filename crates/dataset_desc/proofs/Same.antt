-- A field has one value.
use Rattle.std.proofs.Common.{◌≡◌, ℕ, ◌<◌, ◌^◌, List, Option, Some, decimal, arith}
use Rattle.std.proofs.lemmas.Fmt.{decimal_injective}
use Rattle.kvtree.specs.Entries.{Entries}
use Rattle.kvtree.specs.Lookup.{leaf}

pub same_part : (p q : Entries) (o : Option Entries) → Some p ≡ o → o ≡ Some q → p ≡ q
same_part p q o e f = cc

pub same_value : (a b : List ℕ) (o : Option Entries) → o ≡ Some (leaf a) → o ≡ Some (leaf b) → a ≡ b
same_value a b o e f = cc

pub same_number : (n m : ℕ) (o : Option Entries) → n < 2 ^ 32 → m < 2 ^ 32 → o ≡ Some (leaf (decimal n)) → o ≡ Some (leaf (decimal m)) → n ≡ m
same_number n m o small low e f = decimal_injective n m (omega arith) (omega arith) (same_value (decimal n) (decimal m) o e f)
