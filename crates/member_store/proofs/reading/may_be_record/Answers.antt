use Rattle.std.proofs.Common.{◌∙◌, ℕ, List, nat_eq, ap, codes}
use Rattle.std.specs.Cmp.Lexicographic.{pointwise}
use Rattle.member_store.specs.Names.{member_stem}
use Rattle.member_store.proofs.Readings.{ends}
use Rattle.member_store.proofs.reading.may_be_record.Goals as goal

pub returns-then-starts_with : goal.returns-then-starts_with
returns-then-starts_with c = λ which node is. c.ends_with.ensures.value ∙ ap (λ (t : List ℕ). pointwise nat_eq (codes ".m") t) (ends (member_stem which node) c.args.name.now is)
