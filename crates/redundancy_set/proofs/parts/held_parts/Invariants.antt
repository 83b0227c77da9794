use Rattle.std.proofs.Common.{map}
use Rattle.redundancy_set.specs.Known.{held_byte}
use Rattle.redundancy_set.proofs.SumLemmas.{PartsSoFar}
use Rattle.redundancy_set.proofs.parts.held_parts.Given as goal

abbrev pub invariant-loop-j : goal.invariant-loop-j
invariant-loop-j l =
    PartsSoFar l.stripes.len (held_byte l.stripes.members l.stripes.parity l.stripes.len l.stripe l.members.items) l.places l.j (map (λ part. part.now) l.parts.items)
