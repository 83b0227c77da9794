use Rattle.std.proofs.Common.{◌⊎◌, ◌<◌, ◌≤◌, List, refl, ap, arith}
use Rattle.node_device.specs.Changes.{one_wrote, byte_before_all}
use Rattle.node_device.specs.declared.changes.Change.{Change}
use Rattle.node_device.proofs.ChangeLists.{on_err, same_written, same_older, now_written}
use Rattle.node_device.proofs.changes.Changes.note.Goals as goal

pub returns-in_err-note-clause-outside : goal.returns-in_err-note-clause-outside
returns-in_err-note-clause-outside c = λ k out. same_written _ c.args.self.now k (λ lt. refl) (ap (λ (l : List Change). one_wrote l k) c.in_err-note.ensures.err)

pub returns-in_err-note-clause-others : goal.returns-in_err-note-clause-others
returns-in_err-note-clause-others c = λ k byte out. same_older _ c.args.self.now k byte byte (λ lt. refl) (λ le. ap (λ (l : List Change). byte_before_all l k byte) c.in_err-note.ensures.err)

pub returns-in_err-note-clause-err : goal.returns-in_err-note-clause-err
returns-in_err-note-clause-err c = on_err c.from_residual.result (λ k. same_written _ c.args.self.now k (λ lt. refl) (ap (λ (l : List Change). one_wrote l k) c.in_err-note.ensures.err))

pub returns-in_err-note-clause-err_older : goal.returns-in_err-note-clause-err_older
returns-in_err-note-clause-err_older c = on_err c.from_residual.result (λ k byte. same_older _ c.args.self.now k byte byte (λ lt. refl) (λ le. ap (λ (l : List Change). byte_before_all l k byte) c.in_err-note.ensures.err))

pub returns-clause-inside : goal.returns-clause-inside
returns-clause-inside c = λ k le lt. now_written _ k (λ first. c.mark.ensures.inside k first le lt) (λ rest. c.in_ok-note.ensures.inside k (omega (arith, c.max.ensures)) lt)

pub returns-clause-outside : goal.returns-clause-outside
returns-clause-outside c = λ k out.
    let beyond : (k < c.max.result) ⊎ (c.args.end ≤ k) = grind (arith, c.max.ensures, out) in
    same_written _ c.args.self.now k (λ lt. c.mark.ensures.outside k out) (c.note.ensures.outside k beyond)

pub returns-clause-kept : goal.returns-clause-kept
returns-clause-kept c = λ k byte le lt stable.
    same_older _ c.args.self.now k byte _ (λ first. refl) (λ rest. c.in_ok-note.ensures.kept k byte (omega (arith, c.max.ensures)) lt stable)

pub returns-clause-others : goal.returns-clause-others
returns-clause-others c = λ k byte out.
    let beyond : (k < c.max.result) ⊎ (c.args.end ≤ k) = grind (arith, c.max.ensures, out) in
    same_older _ c.args.self.now k byte byte (λ first. refl) (λ rest. c.note.ensures.others k byte beyond)
