use Rattle.std.proofs.Common.{◌≡◌, length, max, slice_index, arith, sym, ap, ap₂, ◌∙◌}
use Rattle.std.proofs.lemmas.List.{take_all, get_or_read_under}
use Rattle.std.proofs.lemmas.Grind.{common_steps}
use Rattle.member_shares.specs.Shares.{longest}
use Rattle.redundancy_set.proofs.LongestLemmas.{longest_more, longest_none}
use Rattle.redundancy_set.proofs.longest.longest_of.Goals as goal

pub loop-i-init : goal.loop-i-init
loop-i-init c = sym (longest_none c.args.lengths.now.items)

pub loop-i-preserved : goal.loop-i-preserved
loop-i-preserved c =
    let xs = c.args.lengths.now.items in
    let i = c.loop-i.i in
    let greater : c.max-most.result ≡ max c.loop-i.most c.index.result.now = grind (arith, common_steps) in
    let read : c.index.result.now ≡ slice_index xs i = get_or_read_under xs i (length xs) c.index.result.now 0 c.index.ensures (omega arith) (omega arith) in
    greater ∙ ap₂ max c.loop-i.invariant read ∙ sym (longest_more xs i (omega arith))

pub returns : goal.returns
returns c = c.loop-i.invariant ∙ ap longest (take_all c.loop-i.i c.args.lengths.now.items (omega arith))
