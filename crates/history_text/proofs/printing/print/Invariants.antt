use Rattle.std.proofs.Common.{◌≡◌, take}
use Rattle.ckpt_model.specs.Text.{history_text}
use Rattle.history_text.proofs.printing.print.Given as goal

abbrev pub invariant-loop-event : goal.invariant-loop-event
invariant-loop-event l = l.out.items ≡ history_text (take l.event-index l.event-items)
