use Rattle.std.proofs.Common.{◌-◌, length}
use Rattle.gf256.specs.Field.{mul}
use Rattle.lane_kernels.specs.Blocks.{with_four_at}
use Rattle.lane_kernels.proofs.Steps.{IsChanged}
use Rattle.lane_kernels.proofs.four.mul_add_four.Given as goal

abbrev pub invariant-loop-at : goal.invariant-loop-at
invariant-loop-at l =
    IsChanged (with_four_at (mul l.a.weight) (mul l.b.weight) (mul l.c.weight) (mul l.d.weight) l.a.bytes.now l.b.bytes.now l.c.bytes.now l.d.bytes.now) l.at l.initial.dst l.dst

abbrev pub decreases-loop-at : goal.decreases-loop-at
decreases-loop-at l = length l.dst - l.at

abbrev pub invariant-loop-i : goal.invariant-loop-i
invariant-loop-i l =
    IsChanged (with_four_at (mul l.a.weight) (mul l.b.weight) (mul l.c.weight) (mul l.d.weight) l.a.bytes.now l.b.bytes.now l.c.bytes.now l.d.bytes.now) l.i l.fn.dst l.dst
