use Rattle.std.proofs.Common.{◌≡◌, vec_len}
use Rattle.scr_replay.proofs.tests.failing_bay.Given as goal

-- one device a place
abbrev pub invariant-loop-place : goal.invariant-loop-place
invariant-loop-place l = vec_len l.nodes ≡ l.place
