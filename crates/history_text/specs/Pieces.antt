-- Parts of a line that the printer takes one by one.
use Rattle.std.specs.Prelude.{ℕ, List, ◌∷◌, ◌++◌}
use Rattle.scr_base.specs.declared.content.ListRow.{ListRow}
use Rattle.ckpt_model.specs.Text.{state_text, flags_text}
use Rattle.history_reader.specs.Pieces.{mark_text}

-- what follows a row's name in a list of the index
abbrev pub row_end : ListRow → List ℕ
row_end row = 47 ∷ state_text row.failed ++ 47 ∷ flags_text row.flags ++ mark_text row.marked
