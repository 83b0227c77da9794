use Rattle.std.proofs.Common.{◌≡◌}
use Rattle.std.specs.Prelude.{replicate}
use Rattle.round_core.specs.Seats.{fresh_seat}
use Rattle.round_core.proofs.round.Round.new.Given as goal

-- so many ranks have taken no step
abbrev pub invariant-loop : goal.invariant-loop
invariant-loop l = l.seats.items ≡ replicate l.counter fresh_seat
