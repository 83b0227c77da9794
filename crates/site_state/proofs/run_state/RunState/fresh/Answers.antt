use Rattle.std.proofs.Common.{ap, sym, ℕ, ◌≤◌, subst}
use Rattle.scr_base.specs.declared.shape.DataId.{DataId}
use Rattle.site_state.proofs.Shapes.{desc_ranges}
use Rattle.site_state.proofs.run_state.RunState.fresh.Goals as goal

pub invariant_of-result : goal.invariant_of-result
invariant_of-result c =
    let is = c.requires.which in
    let id = ap (λ (w : DataId). w.id) (sym is) in
    let run = ap (λ (w : DataId). w.run) (sym is) in
    record { ranges = desc_ranges c.args.self.now.shape c.args.self.now.config c.args.which (subst (λ (n : ℕ). 1 ≤ n) id c.requires.some.0) (subst (λ (n : ℕ). n ≤ 4294967295) id c.requires.few.0) (subst (λ (n : ℕ). 1 ≤ n) run c.requires.some.1) (subst (λ (n : ℕ). n ≤ 4294967295) run c.requires.few.1) }
