use Rattle.std.proofs.Common.{not, sym, ap, ◌∙◌, arith}
use Rattle.std.proofs.lemmas.Grind.{common_steps}
use Rattle.scr_base.proofs.Chosen.{chosen_more_in, chosen_more_out, chosen_all}
use Rattle.redundancy_set.specs.Sums.{has_data}
use Rattle.redundancy_set.proofs.places.data_places.Goals as goal
use Rattle.redundancy_set.proofs.places.data_places.Goals.{then-not-has_parity+in_ok-push, else-not-has_parity}

pub loop-m-preserved : goal.loop-m-preserved
loop-m-preserved c =
    let s = c.args.stripes in
    let q = has_data s.members s.parity c.args.stripe in
    let m = c.loop-m.m in
    elim c.if-not-has_parity.branch [
      | then-not-has_parity+in_ok-push w ↦
          let e = chosen_more_in q s.members m (omega arith) (sym (ap not w.if-not-has_parity.ensures)) in
          grind (arith, common_steps, e)
      | else-not-has_parity w ↦
          let e = chosen_more_out q s.members m (omega arith) (sym (ap not w.if-not-has_parity.ensures)) in
          grind (arith, common_steps, e)
    ]

pub returns : goal.returns
returns c =
    let s = c.args.stripes in
    c.loop-m.invariant ∙ chosen_all (has_data s.members s.parity c.args.stripe) s.members c.loop-m.m (omega arith)
