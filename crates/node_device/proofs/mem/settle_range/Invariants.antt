use Rattle.node_device.specs.Entries.{IsStopOf}
use Rattle.node_device.specs.EntryLists.{IsEachTo}
use Rattle.node_device.specs.declared.outcome.Outcome.TheVariants.{AsRead}
use Rattle.node_device.proofs.mem.settle_range.Given as goal

abbrev pub invariant-loop-i : goal.invariant-loop-i
invariant-loop-i l = IsEachTo (λ k. IsStopOf AsRead) l.i l.fn.entries.items l.entries.items
