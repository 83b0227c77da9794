-- The files of each rank, changed rank after rank.
use Rattle.std.proofs.Common.{◌≡◌, ℕ, ◌+◌, ◌<◌, List, [], ◌∷◌, ◌++◌, true, false, refl, sym, ◌∙◌, length, get_or, take, drop, append_assoc, add-one, arith}
use Rattle.std.proofs.Math.ListN.{set}
use Rattle.std.proofs.Math.Seq.{drop-cons, take-suc}
use Rattle.std.proofs.lemmas.List.{take_more_set, drop-set-lt}
use Rattle.script_reader.specs.Routes.{Files, is_meant, for_meant}

-- one more rank, whose files x are changed to y
pub meant_yes : (f : Files → Files) (first last i : ℕ) (xs ys : List Files) (x y d : Files) (total : List Files) → i < length xs → is_meant first last i ≡ true
    → x ≡ get_or xs i d → y ≡ f x → ys ≡ set xs i y → take i xs ++ for_meant f first last i (drop i xs) ≡ total → take (i + 1) ys ++ for_meant f first last (i + 1) (drop (i + 1) ys) ≡ total
meant_yes f first last i xs ys x y d total lt meant was is e so_far =
    let front : take (i + 1) (set xs i y) ≡ take i xs ++ y ∷ [] = take_more_set xs i y lt in
    let behind : drop (i + 1) (set xs i y) ≡ drop (i + 1) xs = drop-set-lt (i + 1) xs i y (omega arith) in
    let here : drop i xs ≡ x ∷ drop (i + 1) xs = rw (was, add-one) (drop-cons xs i d lt) in
    let one : take i xs ++ for_meant f first last i (drop i xs) ≡ take i xs ++ (y ∷ for_meant f first last (i + 1) (drop (i + 1) xs)) = rw (here, meant, is) refl in
    rw (e, front, behind) (append_assoc (take i xs) (y ∷ []) (for_meant f first last (i + 1) (drop (i + 1) xs)) ∙ sym one ∙ so_far)

-- one more rank whose files stay
pub meant_no : (f : Files → Files) (first last i : ℕ) (xs : List Files) (total : List Files) → i < length xs → is_meant first last i ≡ false
    → take i xs ++ for_meant f first last i (drop i xs) ≡ total → take (i + 1) xs ++ for_meant f first last (i + 1) (drop (i + 1) xs) ≡ total
meant_no f first last i xs total lt unmeant so_far =
    let front : take (i + 1) xs ≡ take i xs ++ get_or xs i [] ∷ [] = rw add-one (take-suc xs i [] lt) in
    let here : drop i xs ≡ get_or xs i [] ∷ drop (i + 1) xs = rw add-one (drop-cons xs i [] lt) in
    let one : take i xs ++ for_meant f first last i (drop i xs) ≡ take i xs ++ (get_or xs i [] ∷ for_meant f first last (i + 1) (drop (i + 1) xs)) = rw (here, unmeant) refl in
    rw front (append_assoc (take i xs) (get_or xs i [] ∷ []) (for_meant f first last (i + 1) (drop (i + 1) xs)) ∙ sym one ∙ so_far)
