use Rattle.std.proofs.Common.{◌∙◌, sym}
use Rattle.scr_replay.proofs.Rooms.{lacks_room, rest_room}
use Rattle.scr_replay.proofs.built.have_room.Goals as goal

pub returns-then-not-has_room : goal.returns-then-not-has_room
returns-then-not-has_room c =
    sym (lacks_room c.loop-item.left c.args.items.now c.loop-item.item-index c.item-item.result c.first_steps_of-steps.result.now c.loop-item-test.true c.item-item.is c.first_steps_of-steps.ensures (sym c.if-not-has_room.ensures))
    ∙ c.loop-item.invariant

pub loop-item-preserved : goal.loop-item-preserved
loop-item-preserved c =
    rest_room c.loop-item.left c.room_behind-left.result c.args.items.now c.loop-item.item-index c.item-item.result c.first_steps_of-steps.result.now c.loop-item-test.true c.item-item.is c.first_steps_of-steps.ensures (sym c.if-not-has_room.ensures) c.room_behind-left.ensures
    ∙ c.loop-item.invariant
