use Rattle.std.proofs.Common.{◌≡◌, ◌++◌}
use Rattle.commit_core.proofs.Listed.{kept}
use Rattle.commit_core.proofs.listing.add_parity.Given as goal

abbrev pub invariant-loop-stripe : goal.invariant-loop-stripe
invariant-loop-stripe l = l.pieces.items ≡ l.fn.pieces.items ++ kept l.stripes.members l.stripes.parity l.whole l.stripe
