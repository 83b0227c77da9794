use Rattle.std.proofs.Common.{◌<◌, ◌+◌, length, subst, sym, arith}
use Rattle.member_store.proofs.PartNames.{IsSmall, no_two, two_of, first_of, second_of, behind}
use Rattle.member_store.proofs.part_names.are_two_small.Goals as goal

pub returns-then-at-bytes : goal.returns-then-at-bytes
returns-then-at-bytes c = (λ t. absurd (cc t), λ two. absurd (no_two c.args.bytes.now (λ k lt. c.len_before_dot-at.ensures.before k (omega (arith, lt, c.if-at-bytes.true))) two))

pub returns-then-is_small : goal.returns-then-is_small
returns-then-is_small c =
    let bs = c.args.bytes.now in
    let at = c.len_before_dot-at.result in
    let lt : c.len_before_dot-at.result < length c.args.bytes.now = omega (arith, c.len_before_dot-at.ensures.within, c.if-at-bytes.false) in
    let dot = c.len_before_dot-at.ensures.found lt in (
      λ t. two_of bs at lt dot c.len_before_dot-at.ensures.before (c.is_small.ensures.0 c.if-is_small.true) (subst IsSmall (behind bs (at + 1)) (c.is_small-then-is_small.ensures.0 t)),
      λ two. c.is_small-then-is_small.ensures.1 (subst IsSmall (sym (behind bs (at + 1))) (second_of bs at lt dot c.len_before_dot-at.ensures.before two)),
    )

pub returns-else-is_small : goal.returns-else-is_small
returns-else-is_small c =
    let bs = c.args.bytes.now in
    let at = c.len_before_dot-at.result in
    let lt : c.len_before_dot-at.result < length c.args.bytes.now = omega (arith, c.len_before_dot-at.ensures.within, c.if-at-bytes.false) in
    let dot = c.len_before_dot-at.ensures.found lt in (
      λ t. absurd (cc (t, c.if-is_small.false)),
      λ two. c.is_small.ensures.1 (first_of bs at lt dot c.len_before_dot-at.ensures.before two),
    )
