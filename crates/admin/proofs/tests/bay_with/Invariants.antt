use Rattle.std.proofs.Common.{◌≡◌, vec_len}
use Rattle.admin.proofs.tests.bay_with.Given as goal

-- one device a place
abbrev pub invariant-loop-place : goal.invariant-loop-place
invariant-loop-place l = vec_len l.nodes ≡ l.place
