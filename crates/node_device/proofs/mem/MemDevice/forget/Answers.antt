use Rattle.std.proofs.Common.{List, length, map, arith, sym, ◌∙◌, ap, subst, ◌≤◌, ◌^◌}
use Rattle.node_device.specs.Entry.{entry_name}
use Rattle.node_device.specs.DeviceState.{IsAscending}
use Rattle.node_device.specs.Entries.{file_at, names_of, used_by, AreSettledOutside, IsForgotten}
use Rattle.node_device.specs.declared.entry.Entry.{Entry}
use Rattle.node_device.proofs.Forgetting.{kept_ascending, kept_used, kept_few, kept_settled, kept_names, kept_files}
use Rattle.node_device.proofs.mem.MemDevice.forget.Goals as goal

pub invariant_of-self : goal.invariant_of-self
invariant_of-self c =
    let d = c.args.self.now in
    let es = d.entries.items in
    let is = sym c.drop_absent.ensures in
    record {
      ascending = subst (λ (l : List Entry). IsAscending (map entry_name l)) is (kept_ascending es d.ascending);
      counted = d.counted ∙ sym (kept_used es) ∙ ap used_by is;
      few = subst (λ (l : List Entry). length l ≤ 2 ^ 33) is (omega (arith, kept_few es, d.few));
      fits = d.fits;
      settled = subst (λ (l : List Entry). AreSettledOutside 0 0 l) is (kept_settled es c.requires);
    }

pub returns-clause-names : goal.returns-clause-names
returns-clause-names c = ap names_of c.drop_absent.ensures ∙ kept_names c.args.self.now.entries.items

pub returns-clause-files : goal.returns-clause-files
returns-clause-files c = λ q.
    let d = c.args.self.now in
    subst (λ (l : List Entry). IsForgotten (file_at d.entries.items q) (file_at l q)) (sym c.drop_absent.ensures) (kept_files d.entries.items d.ascending c.requires q)
