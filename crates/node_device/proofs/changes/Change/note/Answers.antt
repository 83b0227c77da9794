use Rattle.std.proofs.Common.{◌<◌, ◌≤◌, ◌⊎◌, ◌+◌, length, arith}
use Rattle.node_device.specs.declared.changes.Change.{Change}
use Rattle.node_device.proofs.ChangeLists.{noted_inside, noted_outside, noted_kept, noted_others}
use Rattle.node_device.proofs.changes.Change.note.Goals as goal

pub returns-clause-inside : goal.returns-clause-inside
returns-clause-inside c = λ k le lt.
    let change : Change = record { at = c.args.at; end = c.args.end; old = c.in_ok-old.old } in
    noted_inside c.args.changes.now.items c.push.new.self.items change c.in_ok-push.ensures.items k le lt

pub returns-clause-outside : goal.returns-clause-outside
returns-clause-outside c = λ k out.
    let change : Change = record { at = c.args.at; end = c.args.end; old = c.in_ok-old.old } in
    noted_outside c.args.changes.now.items c.push.new.self.items change c.in_ok-push.ensures.items k out

pub returns-clause-kept : goal.returns-clause-kept
returns-clause-kept c = λ k byte le lt stable.
    let change : Change = record { at = c.args.at; end = c.args.end; old = c.in_ok-old.old } in
    noted_kept c.args.changes.now.items c.push.new.self.items change c.in_ok-push.ensures.items k byte _ le (omega (arith, c.in_ok-old.ensures.len)) (c.in_ok-old.ensures.each k le lt stable)

pub returns-clause-others : goal.returns-clause-others
returns-clause-others c = λ k byte out.
    let change : Change = record { at = c.args.at; end = c.args.end; old = c.in_ok-old.old } in
    let beyond : (k < change.at) ⊎ (change.at + length change.old.items ≤ k) = grind (arith, c.in_ok-old.ensures.len, out) in
    noted_others c.args.changes.now.items c.push.new.self.items change c.in_ok-push.ensures.items k byte beyond
