use Rattle.std.proofs.Common.{◌≡◌, ◌≤◌, take, count_by}
use Rattle.scr_replay.specs.Forms.{is_start}
use Rattle.scr_replay.proofs.steps.count_starts.Given as goal

-- those so far are counted
abbrev pub invariant-loop-step : goal.invariant-loop-step
invariant-loop-step l = record { counted : l.count ≡ count_by is_start (take l.step-index l.steps); within : l.count ≤ l.step-index }
