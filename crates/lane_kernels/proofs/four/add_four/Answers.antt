use Rattle.std.proofs.Common.{slice_index, refl, ◌∙◌, arith}
use Rattle.lane_kernels.specs.Blocks.{with_four_at}
use Rattle.gf256.specs.Field.{mul}
use Rattle.lane_kernels.proofs.Steps.{one_more_block}
use Rattle.lane_kernels.proofs.Weighing.{with_four_same, weighed_once}
use Rattle.lane_kernels.proofs.four.add_four.Goals as goal

pub loop-at-preserved : goal.loop-at-preserved
loop-at-preserved c =
    let x = c.args in
    one_more_block (with_four_at (λ s. s) (λ s. s) (λ s. s) (λ s. s) x.a.now x.b.now x.c.now x.d.now) 64 c.loop-at.at x.dst.now c.loop-at.dst c.add_four_block.new.dst (omega arith)
    c.loop-at.invariant c.add_four_block.ensures

pub returns : goal.returns
returns c = λ i h.
    let x = c.args in
    c.loop-i.invariant.done i (omega arith)
    ∙ with_four_same (slice_index x.dst.now i) (slice_index x.a.now i) (mul 1 (slice_index x.a.now i)) (slice_index x.b.now i) (mul 1 (slice_index x.b.now i)) (slice_index x.c.now i)
    (mul 1 (slice_index x.c.now i)) (slice_index x.d.now i) (mul 1 (slice_index x.d.now i)) (weighed_once 1 (slice_index x.a.now i) refl (c.type_inv.a i).fits)
    (weighed_once 1 (slice_index x.b.now i) refl (c.type_inv.b i).fits) (weighed_once 1 (slice_index x.c.now i) refl (c.type_inv.c i).fits)
    (weighed_once 1 (slice_index x.d.now i) refl (c.type_inv.d i).fits)
