use Rattle.std.proofs.Common.{◌<◌, ◌||◌, Bool, true, take, length, sym, ◌∙◌, ap, subst, arith}
use Rattle.node_device.specs.Entries.{IsStopOf, outcome_for, turn_behind}
use Rattle.node_device.specs.declared.entry.Entry.{Entry}
use Rattle.node_device.specs.declared.outcome.Outcome.{Outcome}
use Rattle.node_device.specs.EntryLists.{each_more}
use Rattle.node_device.proofs.Places.{turn_more}
use Rattle.node_device.proofs.mem.stop_each.Goals as goal

pub loop-entry-preserved : goal.loop-entry-preserved
loop-entry-preserved c =
    let i = c.loop-entry.entry-index in
    let es = c.args.entries.now in
    let inv = c.loop-entry.invariant in
    let lt : i < length c.loop-entry.entries = omega arith in
    let done : IsStopOf c.outcome_of-outcome.result c.entry-item.result c.stop.new.self =
    subst (λ (x : Entry). IsStopOf c.outcome_of-outcome.result x c.stop.new.self) (sym c.entry-item.is)
    (record { name = c.stop.ensures.name; there = c.stop.ensures.there; now = c.stop.ensures.now; at_rest = c.stop.ensures.at_rest; allowed = c.stop.ensures.allowed }) in
    let outcome = c.outcome_of-outcome.ensures ∙ ap (λ (b : Bool). outcome_for c.args.pick b) inv.odd in
    record {
      each = each_more (λ k. IsStopOf (outcome_for c.args.pick (turn_behind true (take k es)))) i es c.loop-entry.entries c.entry-item.result c.stop.new.self lt inv.each c.entry-item.is
          (subst (λ (o : Outcome). IsStopOf o c.entry-item.result c.stop.new.self) outcome done);
      odd = turn_more es i c.entry-item.result c.loop-entry.odd c.is_known.result c.next_turn-odd.result (omega (arith, inv.each.len, lt)) (c.entry-item.is ∙ inv.each.ahead i c.entry-item.result (omega arith)) inv.odd
          (c.is_known.ensures ∙ ap (λ (x : Entry). x.there || x.was_there) (sym c.entry-item.is)) c.next_turn-odd.ensures;
    }
