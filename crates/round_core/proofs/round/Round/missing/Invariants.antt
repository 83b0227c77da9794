use Rattle.std.proofs.Common.{◌≡◌, ◌+◌, drop}
use Rattle.std.specs.List.{position_or_len}
use Rattle.round_core.specs.Seats.{is_missing}
use Rattle.round_core.proofs.round.Round.missing.Given as goal

-- each rank so far has called
abbrev pub invariant-loop-seat : goal.invariant-loop-seat
invariant-loop-seat l = record { so_far : l.rank + position_or_len is_missing (drop l.seat-index l.seat-items) ≡ position_or_len is_missing l.seat-items; at_index : l.rank ≡ l.seat-index }
