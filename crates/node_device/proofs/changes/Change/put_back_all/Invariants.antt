use Rattle.std.proofs.Common.{◌≡◌, ◌<◌, ◌-◌, ℕ, length, take, slice_index}
use Rattle.node_device.specs.Changes.{byte_before_all}
use Rattle.node_device.proofs.changes.Change.put_back_all.Given as goal

abbrev pub invariant-loop-i : goal.invariant-loop-i
invariant-loop-i l = (k : ℕ) → k < length l.fn.bytes → byte_before_all (take (length l.changes - l.i) l.changes) k (slice_index l.bytes k) ≡ byte_before_all l.changes k (slice_index l.fn.bytes k)
