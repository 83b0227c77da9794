use Rattle.std.proofs.Common.{◌∙◌, ◌++◌, ◌∷◌, ℕ, List, nat_eq, ap, codes, decimal}
use Rattle.std.specs.Cmp.Lexicographic.{pointwise}
use Rattle.prefix_index.proofs.Readings.{begins}
use Rattle.prefix_index.proofs.reading.may_be_record.Goals as goal

pub returns : goal.returns
returns c = λ which is. c.starts_with.ensures.value ∙ ap (λ (t : List ℕ). pointwise nat_eq (codes "x.") t) (begins (decimal which.id ++ 46 ∷ decimal which.run) c.args.name.now is)
