use Rattle.std.proofs.Common.{ℕ, List, length, subst, ◌∙◌}
use Rattle.prefix_store.specs.ClearSteps.{Picks}
use Rattle.prefix_store.proofs.Picks.{all_picked}
use Rattle.prefix_store.proofs.clearing.removals_under.Goals as goal

pub returns-clause-found : goal.returns-clause-found
returns-clause-found g c =
    let held = c.in_ok-removals_among.ensures in
    let is = c.deref.ensures.value ∙ c.in_ok-names.ensures.names in
    let picks = subst (λ (folder : List ℕ). Picks folder c.deref.result.now (length c.deref.result.now) held.0) c.bytes.ensures.value held.2 in
    (held.0, held.1, all_picked c.args.name.now (g.D.Device.state c.args.dev.now) held.0 (g.met.D.Device.sound c.args.dev.now) (subst (λ (l : List (List ℕ)). Picks c.args.name.now l (length l) held.0) is picks))
