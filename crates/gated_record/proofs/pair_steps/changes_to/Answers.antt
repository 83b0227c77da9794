use Rattle.std.proofs.Common.{ℕ, ◌∙◌, subst}
use Rattle.gated_record.specs.PairSteps.{Finds}
use Rattle.gated_record.proofs.PairPlans.{finds}
use Rattle.gated_record.proofs.pair_steps.changes_to.Goals as goal

pub returns-clause-finds : goal.returns-clause-finds
returns-clause-finds g c =
    subst (λ (n : ℕ). Finds c.args.stem.now n c.args.want.now (g.D.Device.state c.args.dev.now) c.ending.new.changes.items) c.requires.copy
    (finds c.args.stem.now c.args.copy c.args.want.now (g.D.Device.state c.args.dev.now) (g.D.Device.state c.is_open.new.dev) c.list.result.now c.list-2.result.now c.list-3.result.now c.in_ok-gate.gate c.in_ok-changes.changes.items c.ending.new.changes.items
    (c.list.ensures ∙ c.in_ok-other.ensures) (c.list-2.ensures ∙ c.in_ok-name.ensures) (c.list-3.ensures ∙ c.in_ok-other.ensures)
    c.in_ok-gate.ensures.same c.in_ok-gate.ensures.gate c.in_ok-gate.ensures.told c.in_ok-changes.ensures.begins c.in_ok-ending.ensures)
