use Rattle.std.proofs.Common.{map}
use Rattle.redundancy_set.specs.Sums.{data_byte}
use Rattle.redundancy_set.proofs.SumLemmas.{PartsSoFar}
use Rattle.redundancy_set.proofs.parts.data_parts.Given as goal

abbrev pub invariant-loop-j : goal.invariant-loop-j
invariant-loop-j l = PartsSoFar l.stripes.len (data_byte l.stripes.members l.stripes.parity l.stripe l.segments) l.places l.j (map (λ part. part.now) l.parts.items)
