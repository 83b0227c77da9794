use Rattle.std.proofs.Common.{◌≡◌, length}
use Rattle.record_tests.proofs.file_maps.a_seventeenth_file_is_refused.Given as goal

-- the map keeps its one rank
abbrev pub invariant-loop-letter : goal.invariant-loop-letter
invariant-loop-letter g l = length l.map ≡ 1
