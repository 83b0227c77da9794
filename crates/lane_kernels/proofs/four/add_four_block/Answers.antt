use Rattle.std.proofs.Common.{arith}
use lib.Lanes.{chunk}
use Rattle.lane_kernels.proofs.Lanes.{taken_whole, four_added}
use Rattle.lane_kernels.proofs.four.add_four_block.Goals as goal

pub returns : goal.returns
returns c =
    let x = c.args in
    four_added (λ s. s) (λ s. s) (λ s. s) (λ s. s) 64 x.at x.a.now x.b.now x.c.now x.d.now x.dst.now (chunk x.at 64 x.a.now) (chunk x.at 64 x.b.now) (chunk x.at 64 x.c.now) (chunk x.at 64 x.d.now)
    c.requires.room (taken_whole 64 x.at x.a.now (omega arith)) (taken_whole 64 x.at x.b.now (omega arith)) (taken_whole 64 x.at x.c.now (omega arith)) (taken_whole 64 x.at x.d.now (omega arith))
