use Rattle.std.proofs.Common.{◌≡◌, [], get_or, Some, Err, sym, ap, subst, ◌∙◌, arith}
use Rattle.std.specs.Prelude.{All}
use Rattle.std.proofs.lemmas.Result.{err_from_is_err_and}
use Rattle.kvtree.specs.Entries.{Entries}
use Rattle.kvtree.specs.Lookup.{entry_under}
use Rattle.filemap.specs.Rows.{IsRows}
use Rattle.filemap.specs.Numbered.{two_digits}
use Rattle.filemap.specs.Maps.{rows_tree, map_tree}
use Rattle.filemap.proofs.Numbering.{wide_as, at_place, places_more, found_all}
use Rattle.filemap.proofs.OneFile.{absent, some_is, err_is}
use Rattle.filemap.proofs.RowLaws.{all_push}
use Rattle.filemap.proofs.Same.{same_map}
use Rattle.filemap.proofs.filemap.Filemap.from_tree.Goals as goal

pub returns-then-width-ranks-clause-foreign : goal.returns-then-width-ranks-clause-foreign
returns-then-width-ranks-clause-foreign c = λ _ map is e. let wide = wide_as rows_tree map c.args.tree.now e in omega (arith, is.ranks_are)

pub returns-in_default-clause-foreign : goal.returns-in_default-clause-foreign
returns-in_default-clause-foreign c = λ _ map is e.
    let wide = wide_as rows_tree map c.args.tree.now e in
    absent _ _ c.in_default.ensures (at_place rows_tree map c.args.tree.now c.loop-rank.rank [] e (omega arith))

pub returns-in_err-rows_from_tree-clause-foreign : goal.returns-in_err-rows_from_tree-clause-foreign
returns-in_err-rows_from_tree-clause-foreign c = λ failed map is e.
    let wide = wide_as rows_tree map c.args.tree.now e in
    let p = err_from_is_err_and c.from_residual.result c.from_residual.ensures.1 in
    c.in_err-rows_from_tree.ensures.foreign (ap (λ x. Err x) (sym p.2 ∙ err_is _ _ c.from_residual.result p.1 failed)) (get_or map c.loop-rank.rank []) (is.rows c.loop-rank.rank [] (omega arith))
    (some_is _ _ _ c.in-Some.ensures (at_place rows_tree map c.args.tree.now c.loop-rank.rank [] e (omega arith)))

pub loop-rank-preserved : goal.loop-rank-preserved
loop-rank-preserved c =
    let here : entry_under c.args.tree.now c.loop-rank.rank (two_digits c.loop-rank.rank) ≡ Some (rows_tree c.in_ok-rows_from_tree.field-0) = sym c.in-Some.ensures ∙ ap (λ (t : Entries). Some t) c.in_ok-rows_from_tree.ensures.found in
    record {
      places = places_more rows_tree c.args.tree.now c.loop-rank.list.items c.in_ok-rows_from_tree.field-0 c.push.new.self.items c.loop-rank.rank c.in_ok-push.ensures.items c.loop-rank.invariant.count c.loop-rank.invariant.places here;
      are_rows = subst (All IsRows) (sym c.in_ok-push.ensures.items) (all_push IsRows c.loop-rank.list.items c.in_ok-rows_from_tree.field-0 c.loop-rank.invariant.are_rows c.in_ok-rows_from_tree.ensures.rows);
      count = omega (arith, c.in_ok-push.ensures.len);
    }

pub returns-clause-found : goal.returns-clause-found
returns-clause-found c = found_all rows_tree c.args.tree.now c.loop-rank.list.items c.loop-rank.rank c.loop-rank.invariant.count (omega arith) c.loop-rank.invariant.places

pub returns-clause-only : goal.returns-clause-only
returns-clause-only c = λ map is e.
    let found : c.args.tree.now ≡ map_tree c.loop-rank.list.items = found_all rows_tree c.args.tree.now c.loop-rank.list.items c.loop-rank.rank c.loop-rank.invariant.count (omega arith) c.loop-rank.invariant.places in
    same_map c.loop-rank.list.items map c.loop-rank.invariant.are_rows is.rows (sym found ∙ e)
