use Rattle.std.proofs.Common.{slice_index, ap, sym, ◌∙◌, arith}
use Rattle.std.proofs.lemmas.Grind.{common_steps}
use Rattle.xor_segments.proofs.Sums.{other_steps, others_below_skip, others_below_all}
use Rattle.xor_segments.proofs.rebuild.Goals as goal
use Rattle.xor_segments.proofs.rebuild.Goals.{then-j-lost, else-j-lost}

pub loop-j-preserved : goal.loop-j-preserved
loop-j-preserved c = λ b h.
    let before = c.loop-j.invariant b (omega arith) in
    elim c.if-j-lost.branch [
      | then-j-lost w ↦ grind (arith, common_steps, other_steps, w.xor_into.ensures b)
      | else-j-lost w ↦
          ap (λ out. slice_index out b) w.out-is ∙ before ∙ sym (others_below_skip c.args.stripe.now.items c.args.lost b c.loop-j.j (omega arith) w.if-j-lost.false)
    ]

pub returns : goal.returns
returns c = λ b h.
    others_below_all c.args.stripe.now.items c.args.lost b c.loop-j.j _ (c.loop-j.invariant b (omega arith)) (omega arith) (omega arith)
