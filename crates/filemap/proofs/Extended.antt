-- A file's length, and the files without bytes.
use Rattle.std.proofs.Common.{◌≡◌, ℕ, zero, suc, ◌+◌, ◌<◌, List, [], ◌∷◌, ◌++◌, length, get_or, ap, ◌∙◌, arith}
use Rattle.std.specs.Prelude.{max, slice_set, replicate}
use Rattle.std.proofs.lemmas.List.{length-replicate, replicate-append-replicate}
use Rattle.filemap.specs.Rows.{extended}
use Rattle.filemap.specs.declared.rows.FileRow.{FileRow}

pub extended_is : (rows : List FileRow) (file len : ℕ) (row : FileRow) → file < length rows → row ≡ get_or rows file row → slice_set rows file (record { name = row.name; len = max row.len len }) ≡ extended rows file len
extended_is [] file len row lt is = absurd (omega arith)
extended_is (r ∷ rs) zero len row lt is = ap (λ (z : FileRow). record { name = z.name; len = max z.len len } ∷ rs) is
extended_is (r ∷ rs) (suc file) len row lt is = ap (λ (zs : List FileRow). r ∷ zs) (extended_is rs file len row (omega arith) is)

pub replicate-push : (n : ℕ) (xs : List (List FileRow)) → xs ≡ replicate n [] → xs ++ [] ∷ [] ≡ replicate (n + 1) []
replicate-push n xs is = ap (λ (ys : List (List FileRow)). ys ++ [] ∷ []) is ∙ replicate-append-replicate n 1 []

pub short-replicate : (n : ℕ) (xs : List (List FileRow)) → xs ≡ replicate n [] → length xs ≡ n
short-replicate n xs is = ap length is ∙ length-replicate n []

pub ruleset new_laws = (replicate-push, short-replicate)
