use Rattle.std.proofs.Common.{Bool, length, refl, sym, ◌∙◌, ap, arith, subst}
use Rattle.std.specs.Prelude.{IsSome, is_some}
use Rattle.std.specs.Option.{option_map}
use Rattle.std.proofs.lemmas.List.{length-set}
use Rattle.node_device.specs.File.{File, IsRemoved}
use Rattle.node_device.specs.Held.{present}
use Rattle.node_device.specs.EntryLists.{replaced_ascending, replaced_at, replaced_others, replaced_used, file_at_is}
use Rattle.node_device.proofs.Places.{same_entry}
use Rattle.node_device.proofs.Windows.{settled_set}
use Rattle.node_device.proofs.mem.MemDevice.remove_entry.Goals as goal

pub returns-then-not-index-clause-answer : goal.returns-then-not-index-clause-answer
returns-then-not-index-clause-answer c =
    let d = c.args.self.now in
    let e = c.index.result.now in
    ap (λ (f : File). f.len) (file_at_is d.entries.items c.args.i _ e d.ascending c.requires refl c.index.ensures) ∙ ap (λ (b : Bool). option_map length (present b e.bytes.items)) c.if-not-index.true

pub returns-clause-answer : goal.returns-clause-answer
returns-clause-answer c =
    let d = c.args.self.now in
    let e = c.index.result.now in
    subst (λ (f : File). IsSome f.len) (sym (file_at_is d.entries.items c.args.i _ e d.ascending c.requires refl c.index.ensures)) (ap (λ (b : Bool). is_some (option_map length (present b e.bytes.items))) c.if-not-index.false)

pub invariant_of-self : goal.invariant_of-self
invariant_of-self c =
    let d = c.args.self.now in
    let es = d.entries.items in
    let e = c.remove.new.self in
    record {
      ascending = replaced_ascending es d.ascending c.args.i c.requires c.index_mut.result.now e c.index_mut.ensures.value c.remove.ensures.name;
      counted = omega (
        arith,
        d.counted,
        c.len.ensures,
        same_entry es c.args.i c.index-2.result.now c.index_mut.result.now c.requires c.index-2.ensures c.index_mut.ensures.value,
        c.remove.ensures.empty,
        replaced_used es d.ascending c.args.i c.requires c.index_mut.result.now e c.index_mut.ensures.value c.remove.ensures.name,
      );
      few = omega (arith, d.few, length-set es c.args.i e);
      fits = d.fits;
      settled = settled_set d.start d.end c.widened-range.result.0 c.widened-range.result.1 c.args.i es e d.settled c.requires c.widened-range.ensures.start c.widened-range.ensures.end c.widened-range.ensures.low c.widened-range.ensures.high c.widened-range.ensures.no_more;
    }

pub returns-clause-removed : goal.returns-clause-removed
returns-clause-removed c =
    let d = c.args.self.now in
    replaced_at d.entries.items d.ascending c.args.i c.requires c.index_mut.result.now c.remove.new.self c.index_mut.ensures.value c.remove.ensures.name IsRemoved c.remove.ensures.removed

pub returns-clause-only : goal.returns-clause-only
returns-clause-only c =
    let d = c.args.self.now in
    record {
      tells = refl;
      capacity = refl;
      others = replaced_others d.entries.items d.ascending c.args.i c.requires c.index_mut.result.now c.remove.new.self c.index_mut.ensures.value c.remove.ensures.name;
    }
