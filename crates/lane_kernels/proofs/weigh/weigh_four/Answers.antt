use Rattle.std.proofs.Common.{slice_index, sym, ap, ◌∙◌}
use Rattle.gf256.specs.Field.{mul}
use Rattle.lane_kernels.proofs.Weighing.{with_four_same}
use Rattle.lane_kernels.proofs.weigh.weigh_four.Goals as goal

pub returns-then-d-eq1 : goal.returns-then-d-eq1
returns-then-d-eq1 c = λ i h.
    let x = c.args in
    c.add_four.ensures i h
    ∙ with_four_same (slice_index x.dst.now i) (mul 1 (slice_index x.a.bytes.now i)) (mul x.a.weight (slice_index x.a.bytes.now i)) (mul 1 (slice_index x.b.bytes.now i))
    (mul x.b.weight (slice_index x.b.bytes.now i)) (mul 1 (slice_index x.c.bytes.now i)) (mul x.c.weight (slice_index x.c.bytes.now i)) (mul 1 (slice_index x.d.bytes.now i))
    (mul x.d.weight (slice_index x.d.bytes.now i)) (ap (λ w. mul w (slice_index x.a.bytes.now i)) (sym c.if-a-eq1.true)) (ap (λ w. mul w (slice_index x.b.bytes.now i)) (sym c.if-b-eq1.true))
    (ap (λ w. mul w (slice_index x.c.bytes.now i)) (sym c.if-c-eq1.true)) (ap (λ w. mul w (slice_index x.d.bytes.now i)) (sym c.if-d-eq1.true))
