-- A list whose elements are changed one after another.
use Rattle.std.specs.Prelude.{find, if◌then◌else◌}
use Rattle.std.specs.List.{list_any}
use Rattle.std.proofs.Common.{◌≡◌, ℕ, zero, suc, Bool, true, false, ◌||◌, Some, None, option_map, ◌+◌, ◌<◌, ◌≤◌, List, [], ◌∷◌, ◌++◌, map, take, drop, length, get_or, set, refl, ap, ◌∙◌, arith}

module _ {X : Type 0} (f : X → X) where
  -- the first i are changed
  abbrev pub mapped : ℕ → List X → List X
  mapped i xs = map f (take i xs) ++ drop i xs

  next_suc : (i : ℕ) (xs : List X) (d : X) → i < length xs → set (mapped i xs) i (f (get_or (mapped i xs) i d)) ≡ mapped (suc i) xs
  next_suc i [] d lt = absurd (omega (arith, lt))
  next_suc zero (x ∷ xs) d lt = refl
  next_suc (suc i) (x ∷ xs) d lt = ap (λ (ys : List X). f x ∷ ys) (next_suc i xs d (omega (arith, lt)))

  -- one more is
  pub mapped-next : (i : ℕ) (xs cur : List X) (d : X) → i < length xs → cur ≡ mapped i xs → set cur i (f (get_or cur i d)) ≡ mapped (i + 1) xs
  mapped-next i xs cur d lt is =
      ap (λ (ys : List X). set ys i (f (get_or ys i d))) is ∙ next_suc i xs d lt ∙ ap (λ (k : ℕ). mapped k xs) (let e : suc i ≡ i + 1 = omega arith in e)

  pub mapped-all : (i : ℕ) (xs : List X) → length xs ≤ i → mapped i xs ≡ map f xs
  mapped-all i [] le = nothing i where
    nothing : (k : ℕ) → mapped k [] ≡ []
    nothing zero = refl
    nothing (suc k) = refl
  mapped-all zero (x ∷ xs) le = absurd (omega (arith, le))
  mapped-all (suc i) (x ∷ xs) le = ap (λ (ys : List X). f x ∷ ys) (mapped-all i xs (omega (arith, le)))

  pub length-mapped : (i : ℕ) (xs : List X) → length (mapped i xs) ≡ length xs
  length-mapped i [] = nothing i where
    nothing : (k : ℕ) → length (mapped k []) ≡ 0
    nothing zero = refl
    nothing (suc k) = refl
  length-mapped zero (x ∷ xs) = refl
  length-mapped (suc i) (x ∷ xs) = ap suc (length-mapped i xs)

-- the front of two lists
pub front : {X : Type 0} (xs ys : List X) (n : ℕ) → n ≡ length xs → take n (xs ++ ys) ≡ xs
front {X} xs ys n is = ap (λ (k : ℕ). take k (xs ++ ys)) is ∙ whole xs where
  whole : (zs : List X) → take (length zs) (zs ++ ys) ≡ zs
  whole [] = refl
  whole (z ∷ zs) = ap (λ (ws : List X). z ∷ ws) (whole zs)

-- what is found where one is there, and what isn't where none is
pub found_any : {X Y : Type 0} (test : X → Bool) (f : X → Y) (xs : List X) (y : Y) → option_map f (find test xs) ≡ Some y → list_any test xs ≡ true
found_any test f [] y e = absurd (cc e)
found_any test f (x ∷ xs) y e = pick (test x) e (found_any test f xs y) where
  pick : (b : Bool) → option_map f (if b then Some x else find test xs) ≡ Some y → (option_map f (find test xs) ≡ Some y → list_any test xs ≡ true) → (b || list_any test xs) ≡ true
  pick true e rest = refl
  pick false e rest = rest e

pub none_any : {X Y : Type 0} (test : X → Bool) (f : X → Y) (xs : List X) → option_map f (find test xs) ≡ None → list_any test xs ≡ false
none_any test f [] e = refl
none_any test f (x ∷ xs) e = pick (test x) e (none_any test f xs) where
  pick : (b : Bool) → option_map f (if b then Some x else find test xs) ≡ None → (option_map f (find test xs) ≡ None → list_any test xs ≡ false) → (b || list_any test xs) ≡ false
  pick true e rest = absurd (cc e)
  pick false e rest = rest e
