use Rattle.std.proofs.Common.{◌≡◌, ◌-◌, Err, arith, subst, ap, ◌∙◌}
use Rattle.std.proofs.lemmas.Result.{err_from_is_err_and}
use Rattle.reed_solomon.specs.declared.RsError.TheVariants.{TooFew}
use Rattle.reed_solomon.specs.Stripe.{IsSegment}
use Rattle.reed_solomon.proofs.Complete.{rebuilt}
use Rattle.reed_solomon.proofs.rebuild_segment.Goals as goal

pub returns-in_err-first-clause-too_few : goal.returns-in_err-first-clause-too_few
returns-in_err-first-clause-too_few c = λ count.
    let p = err_from_is_err_and c.from_residual.result c.from_residual.ensures.1 in
    let own = c.in_err-first.ensures.too_few count in (
      λ e. own.0 (ap (λ x. Err x) (let same : c.in_err-first.field-0.0 ≡ TooFew count = cc (e, p.1, p.2) in same)),
      λ short.
          let given = own.1 short in
          let same : c.in_err-first.field-0.0 ≡ TooFew count = cc (given) in
          p.1 ∙ ap (λ x. Err x) (p.2 ∙ same),
    )

pub returns-clause-ok : goal.returns-clause-ok
returns-clause-ok c =
    rebuilt c.args.known.now.items (c.args.n - c.args.k) c.in_ok-first.first.items c.args.target c.in_ok-segment.segment
    c.in_ok-first.ensures.first (omega (arith, c.in_ok-first.ensures.count)) c.in_ok-first.ensures.places
    (subst (λ places. IsSegment c.args.known.now.items places c.args.target c.in_ok-segment.segment) c.as_slice.ensures.value c.in_ok-segment.ensures)
