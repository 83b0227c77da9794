use Rattle.std.proofs.Common.{ℕ, List, length, subst, ◌∙◌}
use Rattle.member_store.specs.DropSteps.{Picks}
use Rattle.member_store.proofs.Picks.{all_picked}
use Rattle.member_store.proofs.removal.removals.Goals as goal

pub returns-clause-found : goal.returns-clause-found
returns-clause-found g c =
    let held = c.in_ok-removals_among.ensures in
    let is = c.deref.ensures.value ∙ c.in_ok-names.ensures.names in (
      held.0,
      held.1,
      all_picked c.args.which c.args.node (g.D.Device.state c.args.dev.now) held.0 (g.met.D.Device.sound c.args.dev.now)
          (subst (λ (l : List (List ℕ)). Picks c.args.which c.args.node l (length l) held.0) is held.2),
    )
