use Rattle.std.proofs.Common.{◌≡◌, ◌-◌, [], slice_index_or, Err, arith, sym, subst, ap, ◌∙◌, inl, inr}
use Rattle.std.proofs.lemmas.Bool.{cases_lt}
use Rattle.std.proofs.lemmas.Grind.{common_steps}
use Rattle.std.proofs.lemmas.Result.{err_from_is_err_and}
use Rattle.reed_solomon.specs.declared.RsError.TheVariants.{TooFew}
use Rattle.reed_solomon.specs.Stripe.{IsSegment}
use Rattle.reed_solomon.proofs.Complete.{completed}
use Rattle.reed_solomon.proofs.rebuild_stripe.Goals as goal

pub returns-in_err-places-clause-too_few : goal.returns-in_err-places-clause-too_few
returns-in_err-places-clause-too_few c = λ count.
    let p = err_from_is_err_and c.from_residual.result c.from_residual.ensures.1 in
    let own = c.in_err-places.ensures.too_few count in (
      λ e. own.0 (ap (λ x. Err x) (let same : c.in_err-places.field-0.0 ≡ TooFew count = cc (e, p.1, p.2) in same)),
      λ short.
          let given = own.1 short in
          let same : c.in_err-places.field-0.0 ≡ TooFew count = cc (given) in
          p.1 ∙ ap (λ x. Err x) (p.2 ∙ same),
    )

pub loop-target-preserved : goal.loop-target-preserved
loop-target-preserved c = record {
  count = grind (arith, common_steps);
  each = λ i h.
      elim (cases_lt i c.loop-target.target) [
        | inl low ↦
            let kept : slice_index_or c.push.new.self.items i [] ≡ slice_index_or c.loop-target.stripe.items i [] = grind (arith, common_steps) in
            subst (IsSegment c.args.known.now.items c.in_ok-places.places.items i) (sym kept) (c.loop-target.invariant.each i low)
        | inr high ↦
            let top : i ≡ c.loop-target.target = omega arith in
            let pushed : slice_index_or c.push.new.self.items i [] ≡ c.in_ok-segment.segment = grind (arith, common_steps) in
            let there : IsSegment c.args.known.now.items c.as_slice.result.now c.loop-target.target c.in_ok-segment.segment = c.in_ok-segment.ensures in
            let right : IsSegment c.args.known.now.items c.in_ok-places.places.items c.loop-target.target c.in_ok-segment.segment =
            subst (λ places. IsSegment c.args.known.now.items places c.loop-target.target c.in_ok-segment.segment) c.as_slice.ensures.value there in
            subst (IsSegment c.args.known.now.items c.in_ok-places.places.items i) (sym pushed)
            (subst (λ t. IsSegment c.args.known.now.items c.in_ok-places.places.items t c.in_ok-segment.segment) (sym top) right)
      ];
}

pub returns-clause-ok : goal.returns-clause-ok
returns-clause-ok c =
    completed c.args.known.now.items (c.args.n - c.args.k) c.in_ok-places.places.items c.loop-target.stripe.items c.in_ok-places.ensures.first (omega (arith, c.in_ok-places.ensures.count))
    c.in_ok-places.ensures.places (omega arith) (omega arith) (λ i h. c.loop-target.invariant.each i (omega arith))
