-- One file more.
use Rattle.std.proofs.Common.{◌≡◌, ℕ, ◌<◌, ◌≤◌, true, false, List, [], ◌∷◌, ◌++◌, length, get_or, Some, sym, ap, ◌∙◌, arith, bytes_eq, length-append}
use Rattle.std.specs.Prelude.{map, All}
use Rattle.std.proofs.lemmas.Slice.Eq.{bytes_eq-Decides}
use Rattle.std.proofs.lemmas.List.{get_or-map}
use Rattle.std.proofs.lemmas.List.Elements.{All-append, All-cons, All-nil}
use Rattle.std.proofs.lemmas.List.Quantifiers.{all_pairs_push}
use Rattle.std.proofs.lemmas.List.Sums.{fails_before_first, passes_at_first}
use Rattle.kvtree.specs.Entries.{Entries, none, width}
use Rattle.kvtree.specs.Lookup.{entry_under}
use Rattle.filemap.specs.Rows.{IsRow, IsRows, Differ, place_of}
use Rattle.filemap.specs.Numbered.{two_digits}
use Rattle.filemap.specs.Maps.{file_tree, rows_tree}
use Rattle.filemap.specs.declared.rows.FileRow.{FileRow}
use Rattle.filemap.proofs.Numbering.{Places, wide_as, at_place}
use Rattle.filemap.proofs.OneFile.{some_is}
use Rattle.filemap.proofs.Same.{same_file}

differ_by : (xs ys : List ℕ) → bytes_eq xs ys ≡ false → xs ≡ ys → ⊥
differ_by xs ys e is = let yes : bytes_eq xs ys ≡ true = grind (arith, bytes_eq-Decides) in absurd cc

same_by : (xs ys : List ℕ) → bytes_eq xs ys ≡ true → xs ≡ ys
same_by xs ys e = (bytes_eq-Decides xs ys).0 e

pub all_push : {A : Type 0} (P : A → Type 0) (xs : List A) (x : A) → All P xs → P x → All P (xs ++ x ∷ [])
all_push P xs x all one = All-append P xs (x ∷ []) all (All-cons P x [] one (All-nil P))

pub rows_push : (rows : List FileRow) (row : FileRow) → IsRows rows → length rows < 16 → IsRow row → length rows ≤ place_of rows row.name → IsRows (rows ++ row ∷ [])
rows_push rows row is few is_row new = record {
  few = omega (arith, length-append rows (row ∷ []));
  fit = all_push IsRow rows row is.fit is_row;
  distinct = all_pairs_push Differ rows row is.distinct (λ k d lt. differ_by (get_or rows k d).name row.name (fails_before_first (λ r. bytes_eq r.name row.name) rows k d (omega arith)));
}

-- a name that stands twice is in the tree of no files
pub repeats : (t : Entries) (xs rows : List FileRow) (n : ℕ) (row : FileRow) → IsRows xs → length xs ≡ n → Places t (map file_tree xs) n → entry_under t n (two_digits n) ≡ Some (file_tree row) → IsRow row → place_of xs row.name < length xs → n < width t → IsRows rows → t ≡ rows_tree rows → ⊥
repeats t xs rows n row are count places here is_row old lt is e =
    let wide = wide_as file_tree rows t e in
    let k = place_of xs row.name in
    let last : row ≡ get_or rows n row = same_file row (get_or rows n row) is_row (is.fit n row (omega arith)) (some_is _ _ _ (sym here) (at_place file_tree rows t n row e (omega arith))) in
    let mapped : entry_under t k (two_digits k) ≡ Some (file_tree (get_or xs k row)) = places k (omega arith) ∙ ap (λ (c : Entries). Some c) (get_or-map file_tree xs k row none old) in
    let first : get_or xs k row ≡ get_or rows k row = same_file (get_or xs k row) (get_or rows k row) (are.fit k row old) (is.fit k row (omega arith)) (some_is _ _ _ (sym mapped) (at_place file_tree rows t k row e (omega arith))) in
    let name : (get_or xs k row).name ≡ row.name = same_by (get_or xs k row).name row.name (passes_at_first (λ r. bytes_eq r.name row.name) xs row old) in
    is.distinct k n row (omega arith) (omega arith) (ap (λ (r : FileRow). r.name) (sym first) ∙ name ∙ ap (λ (r : FileRow). r.name) last)
