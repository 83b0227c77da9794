use Rattle.std.proofs.Common.{arith}
use Rattle.reed_solomon.proofs.Complete.{one_length}
use Rattle.codes_tests.proofs.stripes.known_of.Goals as goal

pub returns-clause-one_length : goal.returns-clause-one_length
returns-clause-one_length c = one_length c.loop-place.known.items 3 (λ i h. c.loop-place.invariant.each i (omega arith))
