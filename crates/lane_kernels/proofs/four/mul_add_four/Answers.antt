use Rattle.std.proofs.Common.{arith}
use Rattle.gf256.specs.Field.{mul}
use Rattle.lane_kernels.specs.Blocks.{with_four_at}
use Rattle.lane_kernels.proofs.Lanes.{taken_times, four_added}
use Rattle.lane_kernels.proofs.Steps.{one_more_block}
use Rattle.lane_kernels.proofs.four.mul_add_four.Goals as goal

pub loop-at-preserved : goal.loop-at-preserved
loop-at-preserved c =
    let x = c.args in
    let at = c.loop-at.at in
    let p = c.with in
    let q = c.with-in-loop-at in
    let r = c.with-in-loop-at-2 in
    let s = c.with-in-loop-at-3 in
    one_more_block (with_four_at (mul x.a.weight) (mul x.b.weight) (mul x.c.weight) (mul x.d.weight) x.a.bytes.now x.b.bytes.now x.c.bytes.now x.d.bytes.now) 16 at x.dst.now c.loop-at.dst _
    (omega arith) c.loop-at.invariant
    (four_added (mul x.a.weight) (mul x.b.weight) (mul x.c.weight) (mul x.d.weight) 16 at x.a.bytes.now x.b.bytes.now x.c.bytes.now x.d.bytes.now c.loop-at.dst p.result q.result r.result s.result
    (omega arith)
    (taken_times x.a.weight c.of-p.result.factor at x.a.bytes.now p.result (omega arith) c.of-p.ensures p.ensures.lanes p.ensures.each)
    (taken_times x.b.weight c.of-q.result.factor at x.b.bytes.now q.result (omega arith) c.of-q.ensures q.ensures.lanes q.ensures.each)
    (taken_times x.c.weight c.of-r.result.factor at x.c.bytes.now r.result (omega arith) c.of-r.ensures r.ensures.lanes r.ensures.each)
    (taken_times x.d.weight c.of-s.result.factor at x.d.bytes.now s.result (omega arith) c.of-s.ensures s.ensures.lanes s.ensures.each))
