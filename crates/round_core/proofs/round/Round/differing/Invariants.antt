use Rattle.std.proofs.Common.{◌≡◌, ◌+◌, drop}
use Rattle.std.specs.List.{position_or_len}
use Rattle.round_core.specs.Seats.{differs_at}
use Rattle.round_core.proofs.round.Round.differing.Given as goal

-- each rank so far has a call that fits
abbrev pub invariant-loop-seat : goal.invariant-loop-seat
invariant-loop-seat l = record { so_far : l.rank + position_or_len (differs_at l.first) (drop l.seat-index l.seat-items) ≡ position_or_len (differs_at l.first) l.seat-items; at_index : l.rank ≡ l.seat-index }
