-- The tree of a file, by its one child.
use Rattle.std.proofs.Common.{◌≡◌, ℕ, List, Option, Some, None, Result, Err, ap, arith}
use Rattle.kvtree.specs.Entries.{Entries, none, entry, width}
use Rattle.kvtree.specs.Lookup.{entry_at, leaf}

pub pair_is : (p q : List ℕ × Entries) → Some p ≡ Some q → p ≡ q
pair_is p q e = cc

pub leaf_is : (a b : List ℕ) → leaf a ≡ leaf b → a ≡ b
leaf_is a b e = cc

pub one_at : (t : Entries) (key : List ℕ) (below : Entries) → entry_at t 0 ≡ Some (key, below) → width t ≡ 1 → t ≡ entry key below none
one_at none key below first one = absurd (omega arith)
one_at (entry k x none) key below first one = ap (λ (p : List ℕ × Entries). entry p.0 p.1 none) (pair_is (k, x) (key, below) first)
one_at (entry k x (entry l y r)) key below first one = absurd (omega arith)

pub absent : {A : Type 0} (o : Option A) (x : A) → None ≡ o → o ≡ Some x → ⊥
absent o x e f = cc

pub some_is : {A : Type 0} (o : Option A) (x y : A) → Some x ≡ o → o ≡ Some y → x ≡ y
some_is o x y e f = cc

pub err_is : {T E : Type 0} (a b : E) (r : Result T E) → r ≡ Err a → r ≡ Err b → a ≡ b
err_is a b r e f = cc
