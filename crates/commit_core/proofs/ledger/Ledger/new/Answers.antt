use Rattle.std.proofs.Common.{◌≡◌, List, vec_capacity, subst, sym, arith}
use Rattle.std.proofs.lemmas.Grind.{common_steps}
use Rattle.commit_core.specs.declared.outs.OutAt.{OutAt}
use Rattle.commit_core.specs.declared.standing.Standing.{Standing}
use Rattle.commit_core.specs.LedgerBook.{none_claimed}
use Rattle.commit_core.specs.LedgerIndex.{IsKept}
use Rattle.commit_core.proofs.Kept.{kept_fresh}
use Rattle.commit_core.proofs.ledger.Ledger.new.Goals as goal

pub invariant_of-result : goal.invariant_of-result
invariant_of-result c =
    let pieces = c.args.pieces.items in
    let room = vec_capacity c.in_ok-outs.outs in
    let is : c.in_ok-standings.standings.items ≡ none_claimed pieces = grind (arith, common_steps) in
    subst (λ (xs : List Standing). IsKept pieces xs c.in_ok-outs.outs.items 0 0 0 room) (sym is)
    (subst (λ (xs : List OutAt). IsKept pieces (none_claimed pieces) xs 0 0 0 room) (sym c.in_ok-outs.ensures.items) (kept_fresh pieces 0 room (omega (arith, c.in_ok-outs.ensures.exact))))
