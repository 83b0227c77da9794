use Rattle.std.proofs.Common.{arith, sym, ◌∙◌}
use Rattle.member_store.proofs.Names.{numbers_same, below, is_below}
use Rattle.member_store.proofs.part_names.is_small.Goals as goal

pub returns-in-Some : goal.returns-in-Some
returns-in-Some c = (
  λ t. (c.in-Some.number, below c.in-Some.number 256 t, c.in-Some.ensures),
  λ small. is_below c.in-Some.number small.0 256 small.1 (numbers_same c.in-Some.number small.0 (omega arith) (omega (arith, small.1)) (sym c.in-Some.ensures ∙ small.2)),
)
