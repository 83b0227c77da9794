use Rattle.std.proofs.Common.{◌≡◌, filter}
use Rattle.std.specs.Prelude.{not}
use Rattle.scr_base.specs.Sets.{numbers_below}
use Rattle.recover_core.specs.Seen.{is_marked}
use Rattle.recover_core.proofs.marks.Marks.lost.Given as goal

-- those before this one that aren't marked
abbrev pub invariant-loop-node : goal.invariant-loop-node
invariant-loop-node l = l.lost.items ≡ filter (λ n. not (is_marked l.self n)) (numbers_below l.node)
