use Rattle.std.proofs.Common.{◌≡◌, ◌<◌, ℕ, length, take, slice_index, if◌then◌else◌}
use Rattle.node_device.specs.Changes.{one_wrote}
use Rattle.node_device.proofs.changes.Change.scramble_all.Given as goal

abbrev pub invariant-loop-i : goal.invariant-loop-i
invariant-loop-i l = (k : ℕ) → k < length l.fn.bytes → slice_index l.bytes k ≡ (if one_wrote (take l.i l.changes) k then 0xA5 else slice_index l.fn.bytes k)
