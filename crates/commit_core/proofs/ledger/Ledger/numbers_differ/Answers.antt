use Rattle.std.proofs.Common.{◌≡◌, ℕ, ◌≤◌, Some, slice_get, subst}
use Rattle.commit_core.specs.declared.standing.Standing.TheVariants.{Unclaimed, Out}
use Rattle.commit_core.specs.LedgerBook.{Book}
use Rattle.commit_core.proofs.Index.{only_place, was_given}
use Rattle.commit_core.proofs.Kept.{got}
use Rattle.commit_core.proofs.ledger.Ledger.numbers_differ.Goals as goal

pub returns-clause-one : goal.returns-clause-one
returns-clause-one c =
    let l = c.self.inside in
    subst (λ (b : Book). (p q number : ℕ) → slice_get b.standings p ≡ Some (Out number) → slice_get b.standings q ≡ Some (Out number) → p ≡ q) c.self.view_is
    (λ p q number e f.
    only_place l.standings.items l.given l.outs.items c.self.invariant.index p q number (got l.standings.items p (Out number) Unclaimed e) (got l.standings.items q (Out number) Unclaimed f))

pub returns-clause-given : goal.returns-clause-given
returns-clause-given c =
    let l = c.self.inside in
    subst (λ (b : Book). (p number : ℕ) → slice_get b.standings p ≡ Some (Out number) → (1 ≤ number) × (number ≤ b.given)) c.self.view_is
    (λ p number e. was_given l.standings.items l.given l.outs.items c.self.invariant.index p number (got l.standings.items p (Out number) Unclaimed e))
