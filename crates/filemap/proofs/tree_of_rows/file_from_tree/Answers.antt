use Rattle.std.proofs.Common.{◌≡◌, ℕ, List, sym, ap, ◌∙◌, arith, decimal}
use Rattle.std.proofs.lemmas.Fmt.{decimal_injective}
use Rattle.kvtree.specs.Entries.{Entries, none, entry, width}
use Rattle.kvtree.specs.Lookup.{entry_at, leaf}
use Rattle.filemap.proofs.OneFile.{pair_is, leaf_is, one_at}
use Rattle.filemap.proofs.tree_of_rows.file_from_tree.Goals.{then-width-ne1-via-then-width-ne1, then-width-ne1-via-else-width-ne1+then-len-gt-MAX_LEN}
use Rattle.filemap.proofs.tree_of_rows.file_from_tree.Goals as goal

pub returns-then-width-ne1-clause-foreign : goal.returns-then-width-ne1-clause-foreign
returns-then-width-ne1-clause-foreign c = λ _ row is_row e.
    let wide : width c.args.tree.now ≡ 1 = ap width e in
    let pair = pair_is (c.in-Some.name.now, c.in-Some.below.now) (row.name, leaf (decimal row.len)) (sym c.in-Some.ensures ∙ ap (λ (t : Entries). entry_at t 0) e) in
    let below : c.in-Some.below.now ≡ leaf (decimal row.len) = ap (λ (p : List ℕ × Entries). p.1) pair in
    let text : decimal c.in-Some-only_number.len ≡ decimal row.len = leaf_is _ _ (sym c.in-Some-only_number.ensures ∙ below) in
    let short = is_row.short in
    let len : c.in-Some-only_number.len ≡ row.len = decimal_injective c.in-Some-only_number.len row.len (omega arith) (omega arith) text in
    elim c.then-width-ne1.branch [
      | then-width-ne1-via-then-width-ne1 w ↦ omega arith
      | then-width-ne1-via-else-width-ne1+then-len-gt-MAX_LEN w ↦ omega arith
    ]

pub returns-in-Ok-clause-found : goal.returns-in-Ok-clause-found
returns-in-Ok-clause-found c =
    one_at c.args.tree.now c.in-Some.name.now c.in-Some.below.now c.in-Some.ensures (omega arith)
    ∙ ap (λ (k : List ℕ). entry k c.in-Some.below.now none) (sym c.in-Ok.ensures.ok)
    ∙ ap (λ (t : Entries). entry c.in-Ok.name t none) c.in-Some-only_number.ensures
