use Rattle.std.proofs.Common.{◌≡◌, length}
use Rattle.record_tests.proofs.file_maps.files_keep_the_order_of_their_first_route.Given as goal

-- the map keeps its two ranks
abbrev pub invariant-loop-name : goal.invariant-loop-name
invariant-loop-name g l = length l.map ≡ 2
