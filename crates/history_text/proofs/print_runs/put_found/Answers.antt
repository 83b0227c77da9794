use Rattle.std.proofs.Common.{codes}
use Rattle.std.proofs.lemmas.Result.{on_ok_weaker}
use Rattle.ckpt_model.specs.Text.{text_of, found_word, entry_word}
use Rattle.ckpt_model.specs.declared.event.Event.TheVariants as event
use Rattle.history_reader.specs.Pieces.{each_after}
use Rattle.history_reader.proofs.Joins.{marked_is}
use Rattle.history_text.proofs.Joins.{in_four}
use Rattle.history_text.proofs.print_runs.put_found.Goals as goal

pub returns : goal.returns
returns c =
    let kept = c.args.kept.now in
    let index = c.args.index.now in
    on_ok_weaker
    c.put_entry_rows.result
    (λ e.
    in_four
    c.args.out.now.items
    c.put.new.out.items
    c.put_found_rows.new.out.items
    c.put-2.new.out.items
    c.put_entry_rows.new.out.items
    (codes "found")
    (each_after 32 found_word kept)
    (codes " |")
    (each_after 32 entry_word index)
    (text_of (event.Found kept index))
    c.in_ok-put.ensures
    c.in_ok-put_found_rows.ensures
    c.in_ok-put-2.ensures
    e
    (marked_is found_word kept (codes "|") entry_word index (codes "found")))
    c.put_entry_rows.ensures
