use Rattle.std.proofs.Common.{sym, ap, ◌∙◌, List, ◌++◌, ◌∷◌, ℕ, codes}
use Rattle.ckpt_model.specs.Text.{entry_word}
use Rattle.history_reader.specs.Pieces.{each_after}
use Rattle.history_reader.proofs.Joins.{found_is}
use Rattle.history_reader.proofs.read_runs.found_of.Goals as goal

pub returns-clause-text : goal.returns-clause-text
returns-clause-text c =
    found_is c.in_ok-kept.kept c.in_ok-index.index
    ∙ ap (λ (tail : List ℕ). codes "found " ++ tail) (
    ap (λ (front : List ℕ). front ++ 124 ∷ each_after 32 entry_word c.in_ok-index.index) (sym c.in_ok-kept.ensures.text)
    ∙ ap (λ (behind : List ℕ). c.in-Some.front.now ++ 124 ∷ behind) (sym c.in_ok-index.ensures.text)
    ∙ sym c.in-Some.ensures.text
    )
