use Rattle.std.proofs.Common.{◌-◌, length}
use Rattle.lane_kernels.specs.Blocks.{with_four_at}
use Rattle.lane_kernels.proofs.Steps.{IsChanged}
use Rattle.lane_kernels.proofs.four.add_four.Given as goal

abbrev pub invariant-loop-at : goal.invariant-loop-at
invariant-loop-at l = IsChanged (with_four_at (λ s. s) (λ s. s) (λ s. s) (λ s. s) l.a l.b l.c l.d) l.at l.initial.dst l.dst

abbrev pub decreases-loop-at : goal.decreases-loop-at
decreases-loop-at l = length l.dst - l.at

abbrev pub invariant-loop-i : goal.invariant-loop-i
invariant-loop-i l = IsChanged (with_four_at (λ s. s) (λ s. s) (λ s. s) (λ s. s) l.a l.b l.c l.d) l.i l.fn.dst l.dst
