use Rattle.std.proofs.Common.{◌∙◌, sym, arith}
use Rattle.std.proofs.lemmas.Grind.{common_steps}
use Rattle.commit_core.proofs.Listed.{stripe_in, stripe_out}
use Rattle.commit_core.proofs.listing.add_parity.Goals as goal
use Rattle.commit_core.proofs.listing.add_parity.Goals.{then-has_parity+in_ok-push, else-has_parity}

pub loop-stripe-preserved : goal.loop-stripe-preserved
loop-stripe-preserved c =
    let n = c.args.stripes.members in
    let p = c.args.stripes.parity in
    let m = c.loop-stripe.stripe in
    elim c.if-has_parity.branch [
      | then-has_parity+in_ok-push w ↦
          stripe_in n p m c.args.whole c.args.pieces.now.items c.loop-stripe.pieces.items c.if-has_parity.pieces.items (sym c.has_parity.ensures ∙ w.if-has_parity.true) c.loop-stripe.invariant
          (grind (arith, common_steps))
      | else-has_parity w ↦
          stripe_out n p m c.args.whole c.args.pieces.now.items c.loop-stripe.pieces.items c.if-has_parity.pieces.items (sym c.has_parity.ensures ∙ w.if-has_parity.false) c.loop-stripe.invariant
          (grind (arith, common_steps))
    ]
