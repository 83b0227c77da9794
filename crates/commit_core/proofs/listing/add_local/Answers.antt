use Rattle.std.proofs.Common.{ℕ, ◌++◌, List, length, subst, sym, ap, ◌∙◌, arith}
use Rattle.member_shares.specs.Shares.{IsSet}
use Rattle.commit_core.specs.Pieces.{pieces_of_set, set_lengths}
use Rattle.commit_core.proofs.Listed.{run_more}
use Rattle.commit_core.proofs.SetLengths.{set_is}
use Rattle.commit_core.proofs.listing.add_local.Goals as goal

pub add_set-requires : goal.add_set-requires
add_set-requires c =
    let sets = c.args.sets in
    subst (λ (xs : List ℕ). IsSet sets.scheme (length xs)) (sym (c.as_slice.ensures.value ∙ c.in_ok-own.ensures))
    (set_is sets.scheme sets.nodes c.args.ranks sets.size c.loop-group.group c.args.local c.args.lengths.now c.requires.some sets.few
    (omega (arith, c.loop-group-test.true, c.groups_of-group-end.ensures)) sets.fits)

pub loop-group-preserved : goal.loop-group-preserved
loop-group-preserved c =
    let sets = c.args.sets in
    let old = c.loop-group.pieces.items in
    run_more (λ group. pieces_of_set sets.scheme c.args.local group (set_lengths sets.nodes c.args.ranks sets.size group c.args.local c.args.lengths.now)) c.loop-group.group
    c.args.pieces.now.items old c.add_set.new.pieces.items c.loop-group.invariant
    (c.in_ok-add_set.ensures ∙ ap (λ xs. old ++ pieces_of_set sets.scheme c.args.local c.loop-group.group xs) (c.as_slice.ensures.value ∙ c.in_ok-own.ensures))
