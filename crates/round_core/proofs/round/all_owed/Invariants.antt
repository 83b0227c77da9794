use Rattle.std.proofs.Common.{◌≡◌, map, take}
use Rattle.round_core.specs.Seats.{owed}
use Rattle.round_core.proofs.round.all_owed.Given as goal

-- the ranks so far have the reply due
abbrev pub invariant-loop-seat : goal.invariant-loop-seat
invariant-loop-seat l = l.all.items ≡ map (owed l.reply) (take l.seat-index l.seat-items)
