use Rattle.std.proofs.Common.{◌≡◌, ◌++◌, ◌+◌, ◌-◌, length, map, take, drop, replicate, sym, ap, subst, ◌∙◌, arith}
use Rattle.std.proofs.lemmas.Grind.{common_steps}
use Rattle.redundancy_set.specs.Sums.{AppendsSum}
use Rattle.redundancy_set.proofs.SumLemmas.{put_behind, written_over}
use Rattle.redundancy_set.proofs.sums.append_sum.Goals as goal

pub returns : goal.returns
returns c =
    let old = c.args.out.now.items in
    let parts = map (λ part. part.now) c.args.parts.now in
    let dst = c.weigh_into.new.dst in
    let from = c.len-from.result in
    let grown = c.as_mut_slice.result.now in
    let zeros = take (length grown - from) (drop from grown) in
    let behind = drop (length grown - from) (drop from grown) in
    let size = c.in_ok-resize.ensures.len in
    let same = c.as_mut_slice.ensures.len in
    let room : c.saturating_add.result ≡ from + c.args.len = grind (arith, common_steps, size, same) in
    let front : take from grown ≡ old = grind (arith, common_steps, room, size, same) in
    let zero : zeros ≡ replicate c.args.len 0 = grind (arith, common_steps, room, size, same) in
    let long : length dst ≡ c.args.len = grind (arith, common_steps, room, size, same) in
    let none : length behind ≡ 0 = grind (arith, common_steps, room, size, same) in
    let own = written_over c.resize.new.self.len from grown c.resize.new.self.items old dst behind front none (grind (arith, common_steps, room, size, same, long)) in
    subst (AppendsSum c.args.len c.args.factors.now parts old) (sym own)
    (put_behind c.args.len c.args.factors.now parts old zeros dst zero long c.weigh_into.ensures)
