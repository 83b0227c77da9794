use Rattle.std.proofs.Common.{◌≡◌, ◌≤◌, ◌^◌, ℕ, List, Option, Some, length, map, refl, sym, ◌∙◌, ap, subst, arith}
use Rattle.node_device.specs.File.{Torn, grown, written, bytes_of}
use Rattle.node_device.specs.DeviceState.{IsAscending}
use Rattle.node_device.specs.Entry.{entry_name, entry_file}
use Rattle.node_device.specs.Entries.{used_by, AreSettledOutside}
use Rattle.node_device.specs.declared.entry.Entry.{Entry}
use Rattle.node_device.specs.EntryLists.{inserted_at, inserted_others, inserted_ascending, inserted_used, inserted_length, torn_first, used_is}
use Rattle.node_device.proofs.Windows.{settled_inserted}
use Rattle.node_device.proofs.mem.MemDevice.write_new.Goals as goal

pub invariant_of-self : goal.invariant_of-self
invariant_of-self c =
    let d = c.args.self.now in
    let same = sym c.in_err-insert.ensures.items in
    record {
      ascending = subst (λ (l : List Entry). IsAscending (map entry_name l)) same d.ascending;
      counted = d.counted ∙ ap (λ (l : List Entry). used_by l) same;
      few = subst (λ (l : List Entry). length l ≤ 2 ^ 33) same d.few;
      fits = d.fits;
      settled = subst (λ (l : List Entry). AreSettledOutside d.start d.end l) same d.settled;
    }

pub invariant_of-self-2 : goal.invariant_of-self-2
invariant_of-self-2 c =
    let d = c.args.self.now in
    let es = d.entries.items in
    let e = c.put.new.self in
    let name : entry_name e ≡ c.args.name.now = c.put.ensures.name ∙ c.in_ok-entry.ensures.name in
    record {
      ascending = inserted_ascending es c.args.i c.requires.i c.args.name.now e name c.requires.before c.insert.new.self.items c.in_ok-insert.ensures.items d.ascending c.requires.after;
      counted = omega (arith, c.used_now-used.ensures, used_is es d.ascending, c.len-added.ensures, inserted_used es c.args.i c.requires.i c.args.name.now e name c.requires.before c.insert.new.self.items c.in_ok-insert.ensures.items);
      few = omega (arith, c.in_ok-check_new.ensures.count, c.len.ensures, d.entries.ok.0, inserted_length es c.args.i c.requires.i c.args.name.now e name c.requires.before c.insert.new.self.items c.in_ok-insert.ensures.items);
      fits = d.fits;
      settled = settled_inserted d.start d.end c.opened-range.result.0 c.opened-range.result.1 c.args.i es e c.insert.new.self.items c.in_ok-insert.ensures.items
          (inserted_length es c.args.i c.requires.i c.args.name.now e name c.requires.before c.insert.new.self.items c.in_ok-insert.ensures.items) d.settled c.requires.i
          c.opened-range.ensures.start c.opened-range.ensures.end c.opened-range.ensures.low c.opened-range.ensures.high c.opened-range.ensures.no_more;
    }

pub returns-clause-len : goal.returns-clause-len
returns-clause-len c =
    let d = c.args.self.now in
    let name : entry_name c.put.new.self ≡ c.args.name.now = c.put.ensures.name ∙ c.in_ok-entry.ensures.name in
    inserted_at d.entries.items c.args.i c.requires.i c.args.name.now c.put.new.self name c.requires.before c.insert.new.self.items c.in_ok-insert.ensures.items
    (λ f g. g.len ≡ Some (grown f.len c.args.at (length c.args.bytes.now))) c.requires.absent
    (c.in_ok-put.ensures.len ∙ ap (λ (o : Option ℕ). Some (grown o c.args.at (length c.args.bytes.now))) c.in_ok-entry.ensures.len)

pub returns-clause-now : goal.returns-clause-now
returns-clause-now c =
    let d = c.args.self.now in
    let name : entry_name c.put.new.self ≡ c.args.name.now = c.put.ensures.name ∙ c.in_ok-entry.ensures.name in
    inserted_at d.entries.items c.args.i c.requires.i c.args.name.now c.put.new.self name c.requires.before c.insert.new.self.items c.in_ok-insert.ensures.items
    (λ f g. g.now ≡ Some (written (bytes_of f.now) c.args.at c.args.bytes.now)) c.requires.absent
    (c.in_ok-put.ensures.now ∙ ap (λ (o : Option (List ℕ)). Some (written (bytes_of o) c.args.at c.args.bytes.now)) c.in_ok-entry.ensures.now)

pub returns-clause-torn : goal.returns-clause-torn
returns-clause-torn c =
    let d = c.args.self.now in
    let name : entry_name c.put.new.self ≡ c.args.name.now = c.put.ensures.name ∙ c.in_ok-entry.ensures.name in
    inserted_at d.entries.items c.args.i c.requires.i c.args.name.now c.put.new.self name c.requires.before c.insert.new.self.items c.in_ok-insert.ensures.items
    (Torn c.args.at (length c.args.bytes.now)) c.requires.absent
    (torn_first c.args.at (length c.args.bytes.now) (entry_file c.in_ok-entry.entry) (entry_file c.put.new.self) c.in_ok-entry.ensures.at_rest c.in_ok-entry.ensures.now c.in_ok-put.ensures.torn)

pub returns-clause-only : goal.returns-clause-only
returns-clause-only c =
    let d = c.args.self.now in
    let name : entry_name c.put.new.self ≡ c.args.name.now = c.put.ensures.name ∙ c.in_ok-entry.ensures.name in
    record { tells = refl; capacity = refl; others = inserted_others d.entries.items c.args.i c.requires.i c.args.name.now c.put.new.self name c.requires.before c.insert.new.self.items c.in_ok-insert.ensures.items }
