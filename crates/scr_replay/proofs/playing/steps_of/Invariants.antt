use Rattle.std.proofs.Common.{◌≡◌, take}
use Rattle.scr_replay.proofs.playing.steps_of.Given as goal

-- the steps so far are copied
abbrev pub invariant-loop-step : goal.invariant-loop-step
invariant-loop-step l = l.steps.items ≡ take l.step-index l.program
