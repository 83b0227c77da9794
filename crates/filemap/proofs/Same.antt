-- A tree is that of one list of files, and of one map.
use Rattle.std.proofs.Common.{◌≡◌, suc, List, [], ◌∷◌, refl, ap, ◌∙◌, arith, decimal}
use Rattle.std.specs.Prelude.{map, All}
use Rattle.std.proofs.lemmas.Fmt.{decimal_injective}
use Rattle.kvtree.specs.Entries.{Entries}
use Rattle.filemap.specs.Rows.{IsRow, IsRows}
use Rattle.filemap.specs.Maps.{file_tree, rows_tree, map_tree}
use Rattle.filemap.specs.declared.rows.FileRow.{FileRow}
use Rattle.filemap.proofs.Numbering.{numbered_same}

pub same_file : (a b : FileRow) → IsRow a → IsRow b → file_tree a ≡ file_tree b → a ≡ b
same_file a b p q e =
    let name : a.name ≡ b.name = cc in
    let text : decimal a.len ≡ decimal b.len = cc in
    let len : a.len ≡ b.len = decimal_injective a.len b.len (omega (arith, p.short)) (omega (arith, q.short)) text in
    λ i. record { name = name i; len = len i }

map_same : {A : Type 0} (P : A → Type 0) (f : A → Entries) → ((a b : A) → P a → P b → f a ≡ f b → a ≡ b) → (xs ys : List A) → All P xs → All P ys → map f xs ≡ map f ys → xs ≡ ys
map_same P f one [] [] p q e = refl
map_same P f one [] (y ∷ ys) p q e = absurd cc
map_same P f one (x ∷ xs) [] p q e = absurd cc
map_same P f one (x ∷ xs) (y ∷ ys) p q e =
    let head : f x ≡ f y = cc in
    let tail : map f xs ≡ map f ys = cc in
    ap (λ z. z ∷ xs) (one x y (p 0 x (omega arith)) (q 0 y (omega arith)) head) ∙ ap (λ zs. y ∷ zs) (map_same P f one xs ys (λ i d lt. p (suc i) d (omega arith)) (λ i d lt. q (suc i) d (omega arith)) tail)

pub same_rows : (a b : List FileRow) → IsRows a → IsRows b → rows_tree a ≡ rows_tree b → a ≡ b
same_rows a b p q e = map_same IsRow file_tree same_file a b p.fit q.fit (numbered_same 0 (map file_tree a) (map file_tree b) e)

pub same_map : (a b : List (List FileRow)) → All IsRows a → All IsRows b → map_tree a ≡ map_tree b → a ≡ b
same_map a b p q e = map_same IsRows rows_tree same_rows a b p q (numbered_same 0 (map rows_tree a) (map rows_tree b) e)
