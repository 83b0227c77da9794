use Rattle.std.proofs.Common.{◌≡◌, [], get_or, Some, Err, sym, ap, subst, ◌∙◌, arith}
use Rattle.std.proofs.lemmas.Result.{err_from_is_err_and}
use Rattle.kvtree.specs.Entries.{Entries}
use Rattle.kvtree.specs.Lookup.{entry_under}
use Rattle.filemap.specs.Rows.{IsRows, place_of}
use Rattle.filemap.specs.Numbered.{two_digits}
use Rattle.filemap.specs.Maps.{file_tree, rows_tree}
use Rattle.filemap.specs.declared.rows.FileRow.{FileRow}
use Rattle.filemap.proofs.Numbering.{wide_as, at_place, places_more, found_all}
use Rattle.filemap.proofs.OneFile.{absent, some_is, err_is}
use Rattle.filemap.proofs.RowLaws.{rows_push, repeats}
use Rattle.filemap.proofs.tree_of_rows.rows_from_tree.Goals as goal

nothing : FileRow
nothing = record { name = []; len = 0 }

pub returns-then-width-gt16-clause-foreign : goal.returns-then-width-gt16-clause-foreign
returns-then-width-gt16-clause-foreign c = λ _ rows is e. let wide = wide_as file_tree rows c.args.tree.now e in omega (arith, is.few)

pub returns-in_default-clause-foreign : goal.returns-in_default-clause-foreign
returns-in_default-clause-foreign c = λ _ rows is e.
    let wide = wide_as file_tree rows c.args.tree.now e in
    absent _ _ c.in_default.ensures (at_place file_tree rows c.args.tree.now c.loop-number.number nothing e (omega arith))

pub returns-in_err-row-clause-foreign : goal.returns-in_err-row-clause-foreign
returns-in_err-row-clause-foreign c = λ failed rows is e.
    let wide = wide_as file_tree rows c.args.tree.now e in
    let p = err_from_is_err_and c.from_residual.result c.from_residual.ensures.1 in
    c.in_err-row.ensures.foreign (ap (λ x. Err x) (sym p.2 ∙ err_is _ _ c.from_residual.result p.1 failed)) (get_or rows c.loop-number.number nothing) (is.fit c.loop-number.number nothing (omega arith))
    (some_is _ _ _ c.in-Some.ensures (at_place file_tree rows c.args.tree.now c.loop-number.number nothing e (omega arith)))

pub returns-then-place_of-len-clause-foreign : goal.returns-then-place_of-len-clause-foreign
returns-then-place_of-len-clause-foreign c = λ _ rows is e.
    let place : c.place_of.result ≡ place_of c.loop-number.rows.items c.in_ok-row.row.name = rw (← c.deref.ensures.value, ← c.bytes.ensures.value) c.place_of.ensures.place in
    let here : entry_under c.args.tree.now c.loop-number.number (two_digits c.loop-number.number) ≡ Some (file_tree c.in_ok-row.row) = sym c.in-Some.ensures ∙ ap (λ (t : Entries). Some t) c.in_ok-row.ensures.found in
    repeats c.args.tree.now c.loop-number.rows.items rows c.loop-number.number c.in_ok-row.row c.loop-number.invariant.are_rows c.loop-number.invariant.count c.loop-number.invariant.places here c.in_ok-row.ensures.row (omega arith) (omega arith) is e

pub loop-number-preserved : goal.loop-number-preserved
loop-number-preserved c =
    let place : c.place_of.result ≡ place_of c.loop-number.rows.items c.in_ok-row.row.name = rw (← c.deref.ensures.value, ← c.bytes.ensures.value) c.place_of.ensures.place in
    let here : entry_under c.args.tree.now c.loop-number.number (two_digits c.loop-number.number) ≡ Some (file_tree c.in_ok-row.row) = sym c.in-Some.ensures ∙ ap (λ (t : Entries). Some t) c.in_ok-row.ensures.found in
    record {
      places = places_more file_tree c.args.tree.now c.loop-number.rows.items c.in_ok-row.row c.push.new.self.items c.loop-number.number c.in_ok-push.ensures.items c.loop-number.invariant.count c.loop-number.invariant.places here;
      are_rows = subst IsRows (sym c.in_ok-push.ensures.items) (rows_push c.loop-number.rows.items c.in_ok-row.row c.loop-number.invariant.are_rows (omega arith) c.in_ok-row.ensures.row (omega arith));
      count = omega (arith, c.in_ok-push.ensures.len);
    }

pub returns-clause-found : goal.returns-clause-found
returns-clause-found c =
    found_all file_tree c.args.tree.now c.loop-number.rows.items c.loop-number.number c.loop-number.invariant.count (omega arith) c.loop-number.invariant.places ∙ ap rows_tree (sym c.of.ensures)
