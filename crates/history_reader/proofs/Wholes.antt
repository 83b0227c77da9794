-- A text from the parts that were cut from it.
use Rattle.std.proofs.Common.{◌≡◌, ◌<◌, ℕ, true, List, [], ◌∷◌, ◌++◌, map, length, refl, sym, ap, ◌∙◌, append_assoc, arith}
use Rattle.std.specs.List.{join_with_byte}
use Rattle.std.proofs.lemmas.List.{append-nil}
use Rattle.history_reader.specs.Pieces.{each_after, each_before}
use Rattle.history_reader.specs.Reading.{is_nothing}
use Rattle.history_reader.proofs.Joins.{joined_is}

pub nothing_is : (bs : List ℕ) → is_nothing bs ≡ true → bs ≡ []
nothing_is [] h = refl
nothing_is (b ∷ bs) h = absurd cc

-- an equals sign with a space on each side
pub around_is : (bytes front behind step after before answer : List ℕ) → bytes ≡ front ++ 61 ∷ behind → front ≡ step ++ 32 ∷ after → is_nothing after ≡ true → behind ≡ before ++ 32 ∷ answer → is_nothing before ≡ true → bytes ≡ step ++ 32 ∷ 61 ∷ 32 ∷ answer
around_is bytes front behind step after before answer p q none r none_before =
    p
    ∙ ap (λ (w : List ℕ). w ++ 61 ∷ behind) (q ∙ ap (λ (w : List ℕ). step ++ 32 ∷ w) (nothing_is after none))
    ∙ append_assoc step (32 ∷ []) (61 ∷ behind)
    ∙ ap (λ (w : List ℕ). step ++ 32 ∷ 61 ∷ w) (r ∙ ap (λ (w : List ℕ). w ++ 32 ∷ answer) (nothing_is before none_before))

-- words with the byte behind each are joined words and the byte
pub before_is_joined : {X : Type 0} (c : ℕ) (text : X → List ℕ) (x : X) (xs : List X) → each_before c text (x ∷ xs) ≡ join_with_byte c (map text (x ∷ xs)) ++ c ∷ []
before_is_joined c text x [] = append-nil (text x ++ c ∷ [])
before_is_joined {X = X} c text x (y ∷ ys) =
    append_assoc (text x) (c ∷ []) (each_before c text (y ∷ ys))
    ∙ ap (λ (tail : List ℕ). text x ++ c ∷ tail) (before_is_joined c text y ys)
    ∙ sym (append_assoc (text x) (c ∷ join_with_byte c (map text (y ∷ ys))) (c ∷ []))

-- words with the byte before each are the byte and joined words
pub after_is_joined : {X : Type 0} (c : ℕ) (text : X → List ℕ) (x : X) (xs : List X) → each_after c text (x ∷ xs) ≡ c ∷ join_with_byte c (map text (x ∷ xs))
after_is_joined c text x xs = ap (λ (tail : List ℕ). c ∷ tail) (sym (joined_is c text (text x) xs))

pub rows_before : {X : Type 0} (c : ℕ) (text : X → List ℕ) (bytes words rest : List ℕ) (xs : List X) → bytes ≡ words ++ c ∷ rest → is_nothing rest ≡ true → words ≡ join_with_byte c (map text xs) → 0 < length xs → bytes ≡ each_before c text xs
rows_before c text bytes words rest [] p none q some = absurd (omega arith)
rows_before c text bytes words rest (x ∷ xs) p none q some =
    p
    ∙ ap (λ (w : List ℕ). words ++ c ∷ w) (nothing_is rest none)
    ∙ ap (λ (w : List ℕ). w ++ c ∷ []) q
    ∙ sym (before_is_joined c text x xs)

pub rows_after : {X : Type 0} (c : ℕ) (text : X → List ℕ) (bytes front words : List ℕ) (xs : List X) → bytes ≡ front ++ c ∷ words → is_nothing front ≡ true → words ≡ join_with_byte c (map text xs) → 0 < length xs → bytes ≡ each_after c text xs
rows_after c text bytes front words [] p none q some = absurd (omega arith)
rows_after c text bytes front words (x ∷ xs) p none q some =
    p
    ∙ ap (λ (w : List ℕ). w ++ c ∷ words) (nothing_is front none)
    ∙ ap (λ (w : List ℕ). c ∷ w) q
    ∙ sym (after_is_joined c text x xs)
