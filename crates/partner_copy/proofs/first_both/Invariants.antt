use Rattle.std.proofs.Common.{ℕ, ◌<◌}
use Rattle.partner_copy.specs.Partner.{AreBothLost}
use Rattle.partner_copy.proofs.first_both.Given as goal

abbrev pub invariant-loop-i : goal.invariant-loop-i
invariant-loop-i l = (k : ℕ) → k < l.i → ¬ AreBothLost l.members.items k
