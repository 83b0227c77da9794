-- Words joined by a byte: the first word, and then each with the byte before it.
use Rattle.std.proofs.Common.{◌≡◌, ℕ, List, [], ◌∷◌, ◌++◌, map, refl, ap, sym, ◌∙◌, append_assoc, codes}
use Rattle.std.proofs.lemmas.List.{append-nil}
use Rattle.std.specs.List.{join_with_byte}
use Rattle.ckpt_model.specs.declared.event.FoundRow.{FoundRow}
use Rattle.ckpt_model.specs.declared.event.EntryRow.{EntryRow}
use Rattle.ckpt_model.specs.declared.event.Event.TheVariants as event
use Rattle.ckpt_model.specs.Text.{text_of, found_word, entry_word}
use Rattle.history_reader.specs.Pieces.{each_after, each_before}

pub joined_is : {X : Type 0} (separator : ℕ) (text : X → List ℕ) (front : List ℕ) (xs : List X) → join_with_byte separator (front ∷ map text xs) ≡ front ++ each_after separator text xs
joined_is separator text front [] = sym (append-nil front)
joined_is separator text front (x ∷ xs) = ap (λ (rest : List ℕ). front ++ separator ∷ rest) (joined_is separator text (text x) xs)

-- words on both sides of a mark
pub marked_is : {X Y : Type 0} (text : X → List ℕ) (xs : List X) (mark : List ℕ) (note : Y → List ℕ) (ys : List Y) (front : List ℕ) → join_with_byte 32 (front ∷ (map text xs ++ mark ∷ map note ys)) ≡ front ++ (each_after 32 text xs ++ 32 ∷ (mark ++ each_after 32 note ys))
marked_is text [] mark note ys front = ap (λ (rest : List ℕ). front ++ 32 ∷ rest) (joined_is 32 note mark ys)
marked_is text (x ∷ xs) mark note ys front =
    ap (λ (rest : List ℕ). front ++ 32 ∷ rest) (
    marked_is text xs mark note ys (text x)
    ∙ sym (append_assoc (text x) (each_after 32 text xs) (32 ∷ (mark ++ each_after 32 note ys)))
    )

-- the last word comes behind words that each have the byte behind them
pub joined_last : {X : Type 0} (separator : ℕ) (text : X → List ℕ) (xs : List X) (x : X) → join_with_byte separator (map text (xs ++ x ∷ [])) ≡ each_before separator text xs ++ text x
joined_last separator text [] x = refl
joined_last separator text (y ∷ []) x =
    sym (append_assoc (text y) (separator ∷ []) (text x))
    ∙ sym (append_assoc (text y ++ separator ∷ []) [] (text x))
joined_last separator text (y ∷ z ∷ zs) x =
    ap (λ (rest : List ℕ). text y ++ separator ∷ rest) (joined_last separator text (z ∷ zs) x)
    ∙ sym (append_assoc (text y) (separator ∷ []) (each_before separator text (z ∷ zs) ++ text x))
    ∙ sym (append_assoc (text y ++ separator ∷ []) (each_before separator text (z ∷ zs)) (text x))

-- a space before each of the rows and one more, or one space and then one behind each
turned : (rows : List FoundRow) (tail : List ℕ) → each_after 32 found_word rows ++ 32 ∷ tail ≡ 32 ∷ (each_before 32 found_word rows ++ tail)
turned [] tail = refl
turned (row ∷ rows) tail =
    ap (λ (rest : List ℕ). 32 ∷ rest) (
    append_assoc (found_word row) (each_after 32 found_word rows) (32 ∷ tail)
    ∙ ap (λ (rest : List ℕ). found_word row ++ rest) (turned rows tail)
    ∙ sym (append_assoc (found_word row) (32 ∷ []) (each_before 32 found_word rows ++ tail))
    ∙ sym (append_assoc (found_word row ++ 32 ∷ []) (each_before 32 found_word rows) tail)
    )

-- what was found, read from behind its word: rows with a space behind each, a mark, rows with a space before each
pub found_is : (kept : List FoundRow) (index : List EntryRow) → text_of (event.Found kept index) ≡ codes "found " ++ (each_before 32 found_word kept ++ 124 ∷ each_after 32 entry_word index)
found_is kept index =
    marked_is found_word kept (codes "|") entry_word index (codes "found")
    ∙ ap (λ (rest : List ℕ). codes "found" ++ rest) (turned kept (124 ∷ each_after 32 entry_word index))
