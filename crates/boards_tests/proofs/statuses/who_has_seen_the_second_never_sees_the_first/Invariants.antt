use Rattle.std.proofs.Common.{◌≡◌}
use Rattle.boards_tests.proofs.statuses.who_has_seen_the_second_never_sees_the_first.Given as goal

abbrev pub invariant-loop-i : goal.invariant-loop-i
invariant-loop-i g l = l.pass.board ≡ l.initial.pass.board
