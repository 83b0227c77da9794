use Rattle.std.proofs.Common.{List, sym, ◌∙◌, ap, subst, arith, ◌<◌, ◌^◌}
use Rattle.node_device.specs.Entries.{used_by}
use Rattle.node_device.specs.declared.entry.Entry.{Entry}
use Rattle.node_device.specs.EntryLists.{each_ascending, lens_fit}
use Rattle.node_device.proofs.Windows.{all_within}
use Rattle.node_device.proofs.mem.MemDevice.leave.Goals as goal

pub sum_of_lens-self-requires : goal.sum_of_lens-self-requires
sum_of_lens-self-requires c = subst (λ (l : List Entry). used_by l < 2 ^ 64) (sym c.deref.ensures.value) (lens_fit c.stop_entries.new.entries.items (omega (arith, c.args.self.now.few, c.stop_entries.ensures.len)))

pub invariant_of-self : goal.invariant_of-self
invariant_of-self c =
    let d = c.args.self.now in
    let s = c.stop_entries.ensures in
    record {
      ascending = each_ascending d.entries.items c.stop_entries.new.entries.items s.len (λ k x lt. (s.each k x lt).name) d.ascending;
      counted = c.sum_of_lens-self.ensures ∙ ap (λ (l : List Entry). used_by l) c.deref.ensures.value;
      few = omega (arith, d.few, s.len);
      fits = d.fits;
      settled = all_within c.stop_entries.new.entries.items c.len-self.result (c.len-self.ensures ∙ c.stop_entries.new.entries.ok.0);
    }
