use Rattle.std.proofs.Common.{◌≡◌, take}
use Rattle.codes_tests.proofs.claims.segments_of.Given as goal

abbrev pub invariant-loop-row : goal.invariant-loop-row
invariant-loop-row l = l.segments.items ≡ take l.row-index l.rows
