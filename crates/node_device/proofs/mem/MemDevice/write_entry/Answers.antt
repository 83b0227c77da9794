use Rattle.std.proofs.Common.{◌≡◌, ℕ, true, Some, length, set, refl, subst, arith}
use Rattle.std.specs.Prelude.{OnOk}
use Rattle.std.proofs.lemmas.List.{length-set}
use Rattle.node_device.specs.File.{Torn, grown, written, bytes_of}
use Rattle.node_device.specs.DeviceState.{used_of}
use Rattle.node_device.specs.MemState.{mem_state}
use Rattle.node_device.specs.Entry.{entry_file}
use Rattle.node_device.specs.Answers.{WriteAnswers}
use Rattle.node_device.specs.EntryLists.{replaced_ascending, replaced_at, replaced_others, replaced_used, replaced_kept, replaced_names, replaced_same, on_both, used_is, lens_fit}
use Rattle.node_device.proofs.Places.{same_entry, put_entry, len_in}
use Rattle.node_device.proofs.Windows.{settled_set}
use Rattle.node_device.proofs.mem.MemDevice.write_entry.Goals as goal

pub overflow_sub-self : goal.overflow_sub-self
overflow_sub-self c =
    let d = c.args.self.now in
    omega (arith, c.used_now-used.ensures, used_is d.entries.items d.ascending, c.len-before.ensures, len_in d.entries.items c.args.i c.index.result.now c.requires.i c.index.ensures)

pub overflow_add-self : goal.overflow_add-self
overflow_add-self c =
    let d = c.args.self.now in
    let es = d.entries.items in
    let e = c.write-result.new.self in
    omega (
      arith,
      c.used_now-used.ensures,
      used_is es d.ascending,
      c.len-before.ensures,
      same_entry es c.args.i c.index.result.now c.index_mut.result.now c.requires.i c.index.ensures c.index_mut.ensures.value,
      c.len.ensures,
      put_entry es c.args.i c.index-2.result.now e c.requires.i c.index-2.ensures,
      replaced_used es d.ascending c.args.i c.requires.i c.index_mut.result.now e c.index_mut.ensures.value c.write-result.ensures.name,
      lens_fit (set es c.args.i e) (omega (arith, d.few, length-set es c.args.i e)),
    )

pub invariant_of-self : goal.invariant_of-self
invariant_of-self c =
    let d = c.args.self.now in
    let es = d.entries.items in
    let e = c.write-result.new.self in
    record {
      ascending = replaced_ascending es d.ascending c.args.i c.requires.i c.index_mut.result.now e c.index_mut.ensures.value c.write-result.ensures.name;
      counted = omega (
        arith,
        c.used_now-used.ensures,
        used_is es d.ascending,
        c.len-before.ensures,
        same_entry es c.args.i c.index.result.now c.index_mut.result.now c.requires.i c.index.ensures c.index_mut.ensures.value,
        c.len.ensures,
        put_entry es c.args.i c.index-2.result.now e c.requires.i c.index-2.ensures,
        len_in es c.args.i c.index.result.now c.requires.i c.index.ensures,
        replaced_used es d.ascending c.args.i c.requires.i c.index_mut.result.now e c.index_mut.ensures.value c.write-result.ensures.name,
      );
      few = omega (arith, d.few, length-set es c.args.i e);
      fits = d.fits;
      settled = settled_set d.start d.end c.widened-range.result.0 c.widened-range.result.1 c.args.i es e d.settled c.requires.i c.widened-range.ensures.start c.widened-range.ensures.end c.widened-range.ensures.low c.widened-range.ensures.high c.widened-range.ensures.no_more;
    }

pub returns-clause-answer : goal.returns-clause-answer
returns-clause-answer c =
    let d = c.args.self.now in
    replaced_at d.entries.items d.ascending c.args.i c.requires.i c.index_mut.result.now c.write-result.new.self c.index_mut.ensures.value c.write-result.ensures.name
    (λ f g. WriteAnswers f (used_of (mem_state d)) d.capacity c.args.at (length c.args.bytes.now) c.write-result.result)
    (subst (λ (used : ℕ). WriteAnswers (entry_file c.index_mut.result.now) used d.capacity c.args.at (length c.args.bytes.now) c.write-result.result) c.used_now-used.ensures c.write-result.ensures.answer)

pub returns-clause-len : goal.returns-clause-len
returns-clause-len c =
    let d = c.args.self.now in
    replaced_at d.entries.items d.ascending c.args.i c.requires.i c.index_mut.result.now c.write-result.new.self c.index_mut.ensures.value c.write-result.ensures.name
    (λ f g. OnOk c.write-result.result (g.len ≡ Some (grown f.len c.args.at (length c.args.bytes.now)))) c.write-result.ensures.len

pub returns-clause-now : goal.returns-clause-now
returns-clause-now c =
    let d = c.args.self.now in
    replaced_at d.entries.items d.ascending c.args.i c.requires.i c.index_mut.result.now c.write-result.new.self c.index_mut.ensures.value c.write-result.ensures.name
    (λ f g. OnOk c.write-result.result (g.now ≡ Some (written (bytes_of f.now) c.args.at c.args.bytes.now))) c.write-result.ensures.now

pub returns-clause-torn : goal.returns-clause-torn
returns-clause-torn c =
    let d = c.args.self.now in
    replaced_at d.entries.items d.ascending c.args.i c.requires.i c.index_mut.result.now c.write-result.new.self c.index_mut.ensures.value c.write-result.ensures.name (Torn c.args.at (length c.args.bytes.now)) c.write-result.ensures.torn

pub returns-clause-only : goal.returns-clause-only
returns-clause-only c =
    let d = c.args.self.now in
    record {
      tells = refl;
      capacity = refl;
      others = replaced_others d.entries.items d.ascending c.args.i c.requires.i c.index_mut.result.now c.write-result.new.self c.index_mut.ensures.value c.write-result.ensures.name;
    }

pub returns-clause-refused : goal.returns-clause-refused
returns-clause-refused c =
    let d = c.args.self.now in
    on_both c.write-result.result
    (λ kept there. record {
      tells = refl;
      capacity = refl;
      names = replaced_names d.entries.items c.args.i c.requires.i c.index_mut.result.now c.write-result.new.self c.index_mut.ensures.value c.write-result.ensures.name there;
      files = replaced_kept d.entries.items d.ascending c.args.i c.requires.i c.index_mut.result.now c.write-result.new.self c.index_mut.ensures.value c.write-result.ensures.name kept;
    })
    c.write-result.ensures.err c.write-result.ensures.there

pub returns-clause-spared : goal.returns-clause-spared
returns-clause-spared c =
    let d = c.args.self.now in
    let es = d.entries.items in
    on_both c.write-result.result
    (λ same there i. record {
      tells = true;
      file = replaced_same es d.ascending c.args.i c.requires.i c.index_mut.result.now c.write-result.new.self c.index_mut.ensures.value c.write-result.ensures.name same i;
      names = replaced_names es c.args.i c.requires.i c.index_mut.result.now c.write-result.new.self c.index_mut.ensures.value c.write-result.ensures.name there i;
      capacity = d.capacity;
      faults = d.failing.faults;
    })
    c.write-result.ensures.spared c.write-result.ensures.there
