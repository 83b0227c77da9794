-- How a command's answer is told.
use Rattle.admin.specs.declared.answer.Answer.{Answer}
use Rattle.admin.specs.declared.answer.Answer.TheVariants as admin
use Rattle.ckpt_model.specs.declared.event.CommandAnswer.{CommandAnswer}
use Rattle.ckpt_model.specs.declared.event.CommandAnswer.TheVariants as told

abbrev pub told_answer : Answer → CommandAnswer
told_answer admin.Done = told.Done
told_answer (admin.Device count) = told.Device count
told_answer (admin.Full used capacity) = told.Full used capacity
