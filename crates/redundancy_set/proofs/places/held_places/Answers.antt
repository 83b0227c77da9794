use Rattle.std.proofs.Common.{◌≡◌, ◌-◌, not, length, take, None, sym, ap, ◌∙◌, arith}
use Rattle.std.proofs.lemmas.Grind.{common_steps}
use Rattle.std.proofs.lemmas.List.{get_or_read_under}
use Rattle.std.specs.Option.{is_none}
use Rattle.scr_base.proofs.Chosen.{chosen_more_in, chosen_more_out, chosen_all}
use Rattle.redundancy_set.specs.Sums.{is_there}
use Rattle.redundancy_set.proofs.SumLemmas.{there_from_some}
use Rattle.redundancy_set.proofs.places.held_places.Goals as goal
use Rattle.redundancy_set.proofs.places.held_places.Goals.{then-is_some+in_ok-push, else-is_some}

pub loop-m-preserved : goal.loop-m-preserved
loop-m-preserved c =
    let members = c.args.members.now.items in
    let n = c.args.stripes.members in
    let m = c.loop-m.m in
    let read : c.is_some.result ≡ is_there members m =
    there_from_some c.index.result.now c.is_some.result c.is_some.ensures
    ∙ ap (λ o. not (is_none o)) (get_or_read_under members m (length members) c.index.result.now None c.index.ensures (omega arith) (omega arith)) in
    elim c.if-is_some.branch [
      | then-is_some+in_ok-push w ↦
          let e = chosen_more_in (is_there members) n m (omega arith) (sym read ∙ w.if-is_some.true) in
          grind (arith, common_steps, e)
      | else-is_some w ↦
          let e = chosen_more_out (is_there members) n m (omega arith) (sym read ∙ w.if-is_some.false) in
          grind (arith, common_steps, e)
    ]

pub returns : goal.returns
returns c =
    let all = c.loop-m.invariant ∙ chosen_all (is_there c.args.members.now.items) c.args.stripes.members c.loop-m.m (omega arith) in
    c.truncate.ensures.items ∙ ap (take (c.args.stripes.members - c.args.stripes.parity)) all
