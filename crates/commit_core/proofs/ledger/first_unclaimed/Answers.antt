use Rattle.std.proofs.Common.{sym, ◌∙◌, arith}
use Rattle.std.proofs.lemmas.List.Sums.{position_or_len_is}
use Rattle.commit_core.specs.declared.standing.Standing.TheVariants.{Unclaimed}
use Rattle.commit_core.specs.LedgerBook.{is_unclaimed}
use Rattle.commit_core.proofs.ledger.first_unclaimed.Goals as goal

pub returns-else-not-is_unclaimed : goal.returns-else-not-is_unclaimed
returns-else-not-is_unclaimed c =
    sym
    (position_or_len_is is_unclaimed c.args.standings.now c.loop-place.place Unclaimed c.loop-place.invariant.within c.loop-place.invariant.before
    (λ low. sym c.is_unclaimed.ensures ∙ c.if-not-is_unclaimed.false))

pub returns-after-loop-place : goal.returns-after-loop-place
returns-after-loop-place c =
    sym
    (position_or_len_is is_unclaimed c.args.standings.now c.loop-place.place Unclaimed c.loop-place.invariant.within c.loop-place.invariant.before
    (λ low. absurd (omega arith)))
