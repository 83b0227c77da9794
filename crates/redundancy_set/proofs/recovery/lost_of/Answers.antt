use Rattle.std.proofs.Common.{◌≡◌, length, None, sym, ap, ◌∙◌, arith}
use Rattle.std.specs.Option.{is_none}
use Rattle.std.proofs.lemmas.Grind.{common_steps}
use Rattle.std.proofs.lemmas.List.{get_or_read_under}
use Rattle.scr_base.proofs.Chosen.{chosen_more_in, chosen_more_out, chosen_all}
use Rattle.redundancy_set.specs.Known.{is_lost}
use Rattle.redundancy_set.proofs.KnownLemmas.{none_from_some}
use Rattle.redundancy_set.proofs.recovery.lost_of.Goals as goal
use Rattle.redundancy_set.proofs.recovery.lost_of.Goals.{then-is_none+in_ok-push, else-is_none}

pub loop-i-preserved : goal.loop-i-preserved
loop-i-preserved c =
    let members = c.args.members.now.items in
    let i = c.loop-i.i in
    let read : c.is_none.result ≡ is_lost members i =
    none_from_some c.index.result.now c.is_none.result c.is_none.ensures
    ∙ ap is_none (get_or_read_under members i (length members) c.index.result.now None c.index.ensures (omega arith) (omega arith)) in
    elim c.if-is_none.branch [
      | then-is_none+in_ok-push w ↦
          let e = chosen_more_in (is_lost members) (length members) i (omega arith) (sym read ∙ w.if-is_none.true) in
          grind (arith, common_steps, e)
      | else-is_none w ↦
          let e = chosen_more_out (is_lost members) (length members) i (omega arith) (sym read ∙ w.if-is_none.false) in
          grind (arith, common_steps, e)
    ]

pub returns : goal.returns
returns c = c.loop-i.invariant ∙ chosen_all (is_lost c.args.members.now.items) (length c.args.members.now.items) c.loop-i.i (omega arith)
