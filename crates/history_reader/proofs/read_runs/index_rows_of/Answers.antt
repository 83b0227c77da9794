use Rattle.std.proofs.Common.{sym, ap, ◌∙◌, List}
use Rattle.ckpt_model.specs.declared.event.EntryRow.{EntryRow}
use Rattle.ckpt_model.specs.Text.{entry_word}
use Rattle.history_reader.specs.Pieces.{each_after}
use Rattle.history_reader.proofs.Wholes.{rows_after}
use Rattle.history_reader.proofs.read_runs.index_rows_of.Goals as goal

pub returns-clause-text : goal.returns-clause-text
returns-clause-text c =
    rows_after
    32
    entry_word
    c.args.bytes.now
    c.in-Some.front.now
    c.in-Some.rows.now
    c.in_ok-rows_of.field-0.items
    c.in-Some.ensures.text
    (sym c.is_empty-2.ensures ∙ cc)
    c.in_ok-rows_of.ensures.text
    c.in_ok-rows_of.ensures.some
    ∙ ap (λ (rows : List EntryRow). each_after 32 entry_word rows) (sym c.of-2.ensures)
