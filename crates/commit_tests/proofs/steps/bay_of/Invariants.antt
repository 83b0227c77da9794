use Rattle.std.proofs.Common.{◌≡◌, length}
use Rattle.commit_tests.proofs.steps.bay_of.Given as goal

abbrev pub invariant-loop-place : goal.invariant-loop-place
invariant-loop-place l = length l.nodes.items ≡ l.place
