use Rattle.std.proofs.Common.{take, arith, subst, sym, ap, ◌∙◌}
use Rattle.reed_solomon.specs.Stripe.{ArePlaces}
use Rattle.reed_solomon.proofs.Complete.{first_places}
use Rattle.reed_solomon.proofs.first_places.Goals as goal

pub returns-clause-places : goal.returns-clause-places
returns-clause-places c =
    subst (ArePlaces c.args.known.now.items) (sym (c.truncate.ensures.items ∙ ap (take c.args.needed) c.in_ok-places.ensures))
    (first_places c.args.known.now.items c.args.needed (omega arith) (omega (arith, c.count_known-count.ensures.count)) c.requires.one_length)
