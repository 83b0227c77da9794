use Rattle.std.proofs.Common.{◌≡◌, ℕ, ◌<◌, ◌≤◌, ◌-◌, length, map, slice_index}
use Rattle.gf256.specs.Field.{add}
use Rattle.lane_kernels.proofs.Weighing.{sum_of_first}
use Rattle.lane_kernels.proofs.weigh.weigh_into.Given as goal

abbrev pub invariant-loop-j : goal.invariant-loop-j
invariant-loop-j l =
    (l.j ≤ length l.sources)
    × ((b : ℕ) → b < length l.dst → slice_index l.dst b ≡ add (slice_index l.initial.dst b) (sum_of_first l.weights (map (λ source. source.now) l.sources) b l.j))

abbrev pub decreases-loop-j : goal.decreases-loop-j
decreases-loop-j l = length l.sources - l.j

abbrev pub invariant-loop-i : goal.invariant-loop-i
invariant-loop-i l = (b : ℕ) → b < length l.dst → slice_index l.dst b ≡ add (slice_index l.fn.dst b) (sum_of_first l.weights (map (λ source. source.now) l.sources) b l.i)
