use Rattle.std.proofs.Common.{◌≡◌, drop}
use Rattle.scr_replay.specs.Forms.{has_room}
use Rattle.scr_replay.proofs.steps.has_room.Given as goal

-- those so far had room
abbrev pub invariant-loop-step : goal.invariant-loop-step
invariant-loop-step l = has_room l.left (drop l.step-index l.steps) ≡ has_room l.room l.steps
