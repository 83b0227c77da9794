use Rattle.std.proofs.Common.{◌∙◌, ap}
use Rattle.std.proofs.lemmas.Result.{on_ok_weaker}
use Rattle.ckpt_model.specs.Text.{list_text, list_word}
use Rattle.history_reader.specs.Pieces.{each_after}
use Rattle.history_reader.proofs.Joins.{joined_is}
use Rattle.history_text.proofs.Joins.{in_two}
use Rattle.history_text.proofs.print_commands.put_rows.Goals as goal

pub returns-in_ok-put_row-in-Some : goal.returns-in_ok-put_row-in-Some
returns-in_ok-put_row-in-Some c =
    let first = list_word c.in-Some.first.now in
    let others = c.in-Some.others.now in
    on_ok_weaker
    c.put_more_rows.result
    (λ e.
    in_two
    c.args.out.now.items
    c.put_row.new.out.items
    c.put_more_rows.new.out.items
    first
    (each_after 32 list_word others)
    (list_text c.args.rows.now)
    c.in_ok-put_row-in-Some.ensures
    e
    (ap list_text c.in-Some.ensures.cases.0 ∙ joined_is 32 list_word first others))
    c.put_more_rows.ensures
