use Rattle.std.proofs.Common.{◌≡◌, ◌-◌, drop, count_by}
use Rattle.scr_replay.specs.Forms.{first_steps, is_start}
use Rattle.scr_replay.proofs.built.are_unflushed.Given as goal

-- those so far are counted
abbrev pub invariant-loop-item : goal.invariant-loop-item
invariant-loop-item l = l.left - count_by is_start (first_steps (drop l.item-index l.items)) ≡ l.flush - count_by is_start (first_steps l.items)
