use Rattle.std.proofs.Common.{arith, sym, ◌∙◌}
use Rattle.node_device.specs.EntryLists.{each_ascending}
use Rattle.node_device.proofs.Forgetting.{rested_used}
use Rattle.node_device.proofs.mem.MemDevice.rest.Goals as goal

pub invariant_of-self : goal.invariant_of-self
invariant_of-self c =
    let d = c.args.self.now in
    let es = d.entries.items in
    let fs = c.settle_range.new.entries.items in
    let s = c.settle_range.ensures in
    record {
      ascending = each_ascending es fs s.len (λ k x lt. (s.each k x lt).name) d.ascending;
      counted = d.counted ∙ sym (rested_used es fs s.len s.each);
      few = omega (arith, d.few, s.len);
      fits = d.fits;
      settled = s.outside;
    }
