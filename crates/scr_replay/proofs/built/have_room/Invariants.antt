use Rattle.std.proofs.Common.{◌≡◌, drop}
use Rattle.scr_replay.specs.Forms.{first_steps, has_room}
use Rattle.scr_replay.proofs.built.have_room.Given as goal

-- those so far had room
abbrev pub invariant-loop-item : goal.invariant-loop-item
invariant-loop-item l = has_room l.left (first_steps (drop l.item-index l.items)) ≡ has_room l.room (first_steps l.items)
