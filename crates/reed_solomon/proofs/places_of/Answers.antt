use Rattle.std.proofs.Common.{◌≡◌, length, None, sym, ap, ◌∙◌, arith}
use Rattle.std.specs.Option.{is_some}
use Rattle.std.proofs.lemmas.Grind.{common_steps}
use Rattle.std.proofs.lemmas.List.{get_or_read_under}
use Rattle.reed_solomon.specs.Stripe.{is_known}
use Rattle.scr_base.proofs.Chosen.{chosen_more_in, chosen_more_out, chosen_all}
use Rattle.reed_solomon.proofs.places_of.Goals as goal
use Rattle.reed_solomon.proofs.places_of.Goals.{then-is_some+in_ok-push, else-is_some}

pub loop-place-preserved : goal.loop-place-preserved
loop-place-preserved c =
    let known = c.args.known.now.items in
    let place = c.loop-place.place in
    let read : c.is_some.result ≡ is_known known place =
    c.is_some.ensures ∙ ap is_some (get_or_read_under known place (length known) c.index.result.now None c.index.ensures (omega arith) (omega arith)) in
    elim c.if-is_some.branch [
      | then-is_some+in_ok-push w ↦
          let e = chosen_more_in (is_known known) (length known) place (omega arith) (sym read ∙ w.if-is_some.true) in
          grind (arith, common_steps, e)
      | else-is_some w ↦
          let e = chosen_more_out (is_known known) (length known) place (omega arith) (sym read ∙ w.if-is_some.false) in
          grind (arith, common_steps, e)
    ]

pub returns : goal.returns
returns c = c.loop-place.invariant ∙ chosen_all (is_known c.args.known.now.items) (length c.args.known.now.items) c.loop-place.place (omega arith)
