use Rattle.std.proofs.Common.{◌≡◌, length, slice_index, take, arith, ap, ◌∙◌}
use Rattle.std.proofs.lemmas.Grind.{common_steps}
use Rattle.poly_code.specs.Polynomial.{value_at, weighted_sum}
use Rattle.poly_code.proofs.WeightLemmas.{through, weighted_sum_is, bytes-take, distinct-take, IsFilled-from}
use Rattle.poly_code.proofs.fill.Goals as goal

pub loop-point-preserved : goal.loop-point-preserved
loop-point-preserved c =
    let front = take c.args.deg c.args.points.now in
    let known = take c.args.deg c.args.values.now in
    let e : c.combination.result ≡ value_at (through front known) (slice_index c.args.wanted.now c.loop-point.point-index) =
    c.combination.ensures
    ∙ ap (λ ws. weighted_sum (slice_index ws) (slice_index known) (length ws)) c.as_slice.ensures.value
    ∙ weighted_sum_is front known c.in_ok-weights.weights.items (slice_index c.args.wanted.now c.loop-point.point-index)
    (bytes-take c.args.deg c.args.points.now (λ i. omega (arith, c.type_inv.points i)))
    (bytes-take c.args.deg c.args.values.now (λ i. omega (arith, c.type_inv.values i)))
    (distinct-take c.args.deg c.args.points.now (omega arith) c.requires.distinct)
    c.in_ok-weights.ensures in
    record { count = grind (arith, common_steps); each = λ k h. grind (arith, common_steps, e, c.loop-point.invariant.each k) }

pub returns-clause-ok : goal.returns-clause-ok
returns-clause-ok c =
    rw c.of.ensures
    (IsFilled-from c.args.deg c.args.points.now c.args.values.now c.args.wanted.now c.loop-point.answer.items
    (λ i. omega (arith, c.type_inv.points i)) (λ i. omega (arith, c.type_inv.values i)) (omega arith) c.requires.distinct
    (omega arith) (λ k h. c.loop-point.invariant.each k (omega arith)))
