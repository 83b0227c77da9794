use Rattle.std.proofs.Common.{◌≡◌, ◌<◌, ◌+◌, ◌-◌, ◌/◌, ℕ, Some, length, sym, ◌∙◌, ap, subst, arith, slice_get}
use Rattle.std.proofs.lemmas.Option.{slice_get_within, slice_get-get_or, get_or_from_slice_get}
use Rattle.prefix_index.specs.Entries.{IsBefore}
use Rattle.prefix_index.specs.declared.entry.Entry.{Entry}
use Rattle.prefix_index.proofs.Ordered.{up_to, met_at, none_past}
use Rattle.prefix_index.proofs.order.place_for.Goals as goal

pub loop-low-init : goal.loop-low-init
loop-low-init c = record { inside = omega arith; apart = omega arith; below = λ ascend i a lt at. absurd (omega (arith, lt)); above = λ a at. none_past c.args.entries.now a at }

pub loop-low-preserved-then-is_before : goal.loop-low-preserved-then-is_before
loop-low-preserved-then-is_before c =
    let es = c.args.entries.now in
    let middle : ℕ = c.loop-low.low + (c.loop-low.high - c.loop-low.low) / 2 in
    let lt : middle < length es = omega (arith, c.loop-low-test.true, c.loop-low.invariant.inside) in
    let at : slice_get es middle ≡ Some c.index-entries-middle.result = slice_get-get_or es middle c.index-entries-middle.result lt ∙ ap Some (sym c.index-entries-middle.is) in record {
      inside = c.loop-low.invariant.inside;
      apart = omega (arith, c.loop-low-test.true);
      below = λ ascend. up_to es middle c.args.entry.now c.index-entries-middle.result ascend at (c.is_before.ensures.0 c.if-is_before.true);
      above = c.loop-low.invariant.above;
    }

pub returns-clause-place : goal.returns-clause-place
returns-clause-place c = λ ascend.
    met_at c.args.entries.now c.loop-low.low c.loop-low.high c.args.entry.now c.loop-low.invariant.inside c.loop-low.invariant.apart (omega (arith, c.loop-low-test.false)) (c.loop-low.invariant.below ascend) c.loop-low.invariant.above
