use Rattle.std.proofs.Common.{◌≡◌, ◌-◌, drop, count_by}
use Rattle.scr_replay.specs.Forms.{is_kept}
use Rattle.scr_replay.proofs.steps.room_behind.Given as goal

-- those so far have taken their places
abbrev pub invariant-loop-step : goal.invariant-loop-step
invariant-loop-step l = l.left - count_by is_kept (drop l.step-index l.steps) ≡ l.room - count_by is_kept l.steps
