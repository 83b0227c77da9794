use Rattle.std.proofs.Common.{length, sym, ap, ◌∙◌, arith}
use Rattle.std.proofs.lemmas.Grind.{common_steps}
use Rattle.process_sets.specs.Group.{members_of, is_lost}
use Rattle.scr_base.proofs.Chosen.{chosen_more_in, chosen_more_out, chosen_all}
use Rattle.process_sets.proofs.lost_count.Goals as goal
use Rattle.process_sets.proofs.lost_count.Goals.{then-stands_lost, else-stands_lost}

pub loop-member-preserved : goal.loop-member-preserved
loop-member-preserved c =
    let members = members_of c.args.nodes c.args.groups c.args.group in
    let lost = c.args.lost.now.items in
    record {
      count =
          elim c.if-stands_lost.branch [
            | then-stands_lost w ↦
                let e = chosen_more_in (is_lost members lost) (length members) c.loop-member.member (omega arith) (sym c.stands_lost.ensures ∙ w.if-stands_lost.true) in
                grind (arith, common_steps, e)
            | else-stands_lost w ↦
                let e = chosen_more_out (is_lost members lost) (length members) c.loop-member.member (omega arith) (sym c.stands_lost.ensures ∙ w.if-stands_lost.false) in
                grind (arith, common_steps, e)
          ];
      most = elim c.if-stands_lost.branch [ then-stands_lost w ↦ omega arith | else-stands_lost w ↦ omega arith ];
    }

pub returns : goal.returns
returns c =
    let members = members_of c.args.nodes c.args.groups c.args.group in
    c.loop-member.invariant.count ∙ ap length (chosen_all (is_lost members c.args.lost.now.items) (length members) c.loop-member.member (omega arith))
