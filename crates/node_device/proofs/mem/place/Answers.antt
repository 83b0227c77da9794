use Rattle.std.proofs.Common.{◌<◌, ◌+◌, ◌-◌, ◌/◌, ℕ, List, length, sym, ◌∙◌, ap, arith}
use Rattle.std.specs.Cmp.Lexicographic.{slice_cmp}
use Rattle.std.specs.Ordering.{nat_cmp, ordering_reverse}
use Rattle.std.proofs.lemmas.Cmp.{nat_list_cmp_total}
use Rattle.std.proofs.lemmas.Map.Lookups.{exact_bytes}
use Rattle.node_device.specs.Entry.{entry_name}
use Rattle.node_device.specs.EntryLists.{name_is}
use Rattle.node_device.proofs.Places.{below_up_to}
use Rattle.node_device.proofs.mem.place.Goals as goal

pub loop-low-preserved-in-Less : goal.loop-low-preserved-in-Less
loop-low-preserved-in-Less c =
    let es = c.args.entries.now in
    let middle : ℕ = c.loop-low.low + (c.loop-low.high - c.loop-low.low) / 2 in
    let lt : middle < length es = omega (arith, c.loop-low-test.true, c.loop-low.invariant.inside) in
    let name = name_is es middle c.index-entries-middle.result lt c.index-entries-middle.is ∙ ap entry_name c.index-entries-middle.is ∙ sym c.as_slice.ensures.value in
    record {
      inside = c.loop-low.invariant.inside;
      apart = omega (arith, c.loop-low-test.true);
      below = below_up_to es c.requires c.args.name.now middle lt (ap (λ (n : List ℕ). slice_cmp nat_cmp n c.args.name.now) name ∙ sym c.in-Less.ensures);
      above = c.loop-low.invariant.above;
    }

pub returns-in-Equal-clause-found : goal.returns-in-Equal-clause-found
returns-in-Equal-clause-found c =
    let es = c.args.entries.now in
    let middle : ℕ = c.loop-low.low + (c.loop-low.high - c.loop-low.low) / 2 in
    let lt : middle < length es = omega (arith, c.loop-low-test.true, c.loop-low.invariant.inside) in
    (lt, name_is es middle c.index-entries-middle.result lt c.index-entries-middle.is ∙ ap entry_name c.index-entries-middle.is ∙ sym c.as_slice.ensures.value ∙ exact_bytes c.as_slice.result.now c.args.name.now (sym c.in-Equal.ensures))

pub loop-low-preserved : goal.loop-low-preserved
loop-low-preserved c =
    let es = c.args.entries.now in
    let middle : ℕ = c.loop-low.low + (c.loop-low.high - c.loop-low.low) / 2 in
    let lt : middle < length es = omega (arith, c.loop-low-test.true, c.loop-low.invariant.inside) in
    let name = name_is es middle c.index-entries-middle.result lt c.index-entries-middle.is ∙ ap entry_name c.index-entries-middle.is ∙ sym c.as_slice.ensures.value in
    record {
      inside = omega (arith, lt);
      apart = omega arith;
      below = c.loop-low.invariant.below;
      above = λ inside. ap (λ (n : List ℕ). slice_cmp nat_cmp c.args.name.now n) name ∙ nat_list_cmp_total.antisymm c.args.name.now c.as_slice.result.now ∙ ap ordering_reverse (sym c.in-Greater.ensures);
    }
