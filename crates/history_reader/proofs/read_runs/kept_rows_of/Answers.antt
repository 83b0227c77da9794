use Rattle.std.proofs.Common.{sym, ap, ◌∙◌, List}
use Rattle.ckpt_model.specs.declared.event.FoundRow.{FoundRow}
use Rattle.ckpt_model.specs.Text.{found_word}
use Rattle.history_reader.specs.Pieces.{each_before}
use Rattle.history_reader.proofs.Wholes.{rows_before}
use Rattle.history_reader.proofs.read_runs.kept_rows_of.Goals as goal

pub returns-clause-text : goal.returns-clause-text
returns-clause-text c =
    rows_before
    32
    found_word
    c.args.bytes.now
    c.in-Some.rows.now
    c.in-Some.rest.now
    c.in_ok-rows_of.field-0.items
    c.in-Some.ensures.text
    (sym c.is_empty-2.ensures ∙ cc)
    c.in_ok-rows_of.ensures.text
    c.in_ok-rows_of.ensures.some
    ∙ ap (λ (rows : List FoundRow). each_before 32 found_word rows) (sym c.of-2.ensures)
