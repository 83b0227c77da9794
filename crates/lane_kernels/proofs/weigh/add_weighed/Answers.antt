use Rattle.std.proofs.Common.{slice_index, length-take, refl, sym, ap, ◌∙◌, arith}
use Rattle.gf256.specs.Field.{mul}
use Rattle.gf256.proofs.FieldLemmas.{one-mul, mul-zero}
use Rattle.lane_kernels.proofs.Weighing.{as_far}
use Rattle.lane_kernels.proofs.weigh.add_weighed.Goals as goal

pub returns-then-weight-eq1 : goal.returns-then-weight-eq1
returns-then-weight-eq1 c =
    let src = c.args.src.now in
    as_far (λ s. s) (mul c.args.weight) src c.args.dst.now c.xor_into.new.dst c.min-len.result (omega arith) (omega (arith, c.xor_into.auto.dst, length-take c.min-len.result c.args.dst.now)) c.xor_into.ensures (mul-zero c.args.weight)
    (λ i. sym (ap (λ w. mul w (slice_index src i)) c.if-weight-eq1.true ∙ one-mul (slice_index src i) (c.type_inv.src i).fits))

pub returns-else-weight-eq1 : goal.returns-else-weight-eq1
returns-else-weight-eq1 c =
    as_far (mul c.args.weight) (mul c.args.weight) c.args.src.now c.args.dst.now c.mul_add_into.new.dst c.min-len.result (omega arith) (omega (arith, c.mul_add_into.auto.dst, length-take c.min-len.result c.args.dst.now)) c.mul_add_into.ensures (mul-zero c.args.weight)
    (λ i. refl)
