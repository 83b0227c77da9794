use Rattle.std.proofs.Common.{◌≡◌}
use Rattle.boards_tests.proofs.statuses.both_numbers_come_back.Given as goal

abbrev pub invariant-loop-settled : goal.invariant-loop-settled
invariant-loop-settled g l = l.pass.board ≡ l.board
