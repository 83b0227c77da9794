use Rattle.std.proofs.Common.{◌≡◌, length, slice_index, arith, ap, sym, ◌∙◌, refl}
use Rattle.gf256.specs.Field.{mul}
use Rattle.poly_code.specs.Lagrange.{others_product}
use Rattle.poly_code.proofs.WeightLemmas.{bottom_not_zero, weight_of_is}
use Rattle.poly_code.proofs.weight.Goals as goal

pub unreachable-requires : goal.unreachable-requires
unreachable-requires c =
    let e = bottom_not_zero c.args.points.now c.args.j (λ i. omega (arith, c.type_inv.points i)) c.requires.distinct c.requires.within in
    e (sym c.others_product-bottom.ensures ∙ c.in-None.ensures.none.0 refl)

pub returns : goal.returns
returns c =
    let one : mul (others_product (slice_index c.args.points.now) c.args.j (length c.args.points.now) (slice_index c.args.points.now c.args.j)) c.in-Some.inverse ≡ 1 =
    ap (λ t. mul t c.in-Some.inverse) (sym c.others_product-bottom.ensures) ∙ c.in-Some.ensures.value in
    c.mul.ensures ∙ ap (λ t. mul t c.in-Some.inverse) c.others_product-top.ensures
    ∙ weight_of_is (slice_index c.args.points.now) (length c.args.points.now) c.args.j c.args.target c.in-Some.inverse (omega arith) one
