use Rattle.std.proofs.Common.{◌≡◌, take}
use Rattle.member_shares.specs.Shares.{longest}
use Rattle.commit_core.proofs.longest.longest_of.Given as goal

abbrev pub invariant-loop-i : goal.invariant-loop-i
invariant-loop-i l = l.most ≡ longest (take l.i l.lengths)
