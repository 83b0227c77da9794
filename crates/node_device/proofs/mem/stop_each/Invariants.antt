use Rattle.std.proofs.Common.{◌≡◌, true, take}
use Rattle.node_device.specs.Entries.{IsStopOf, outcome_for, turn_behind}
use Rattle.node_device.specs.EntryLists.{IsEachTo}
use Rattle.node_device.proofs.mem.stop_each.Given as goal

abbrev pub invariant-loop-entry : goal.invariant-loop-entry
invariant-loop-entry l = record {
  each : IsEachTo (λ k. IsStopOf (outcome_for l.pick (turn_behind true (take k l.fn.entries)))) l.entry-index l.fn.entries l.entries;
  odd : l.odd ≡ turn_behind true (take l.entry-index l.fn.entries);
}
