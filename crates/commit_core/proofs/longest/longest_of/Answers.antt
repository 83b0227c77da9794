use Rattle.std.proofs.Common.{◌≡◌, max, slice_index, arith, sym, ap, ◌∙◌}
use Rattle.std.proofs.lemmas.List.{take_all}
use Rattle.std.proofs.lemmas.Grind.{common_steps}
use Rattle.member_shares.specs.Shares.{longest}
use Rattle.redundancy_set.proofs.LongestLemmas.{longest_more, longest_none}
use Rattle.commit_core.proofs.longest.longest_of.Goals as goal

pub loop-i-init : goal.loop-i-init
loop-i-init c = sym (longest_none c.args.lengths.now)

pub loop-i-preserved : goal.loop-i-preserved
loop-i-preserved c =
    let xs = c.args.lengths.now in
    let i = c.loop-i.i in
    let greater : c.max-most.result ≡ max c.loop-i.most (slice_index xs i) = grind (arith, common_steps) in
    greater ∙ ap (λ t. max t (slice_index xs i)) c.loop-i.invariant ∙ sym (longest_more xs i (omega arith))

pub returns : goal.returns
returns c = c.loop-i.invariant ∙ ap longest (take_all c.loop-i.i c.args.lengths.now (omega arith))
