use Rattle.std.proofs.Common.{◌≡◌, ◌<◌, ℕ, ◌+◌, ◌++◌, ◌∷◌, [], false, List, length, Some, slice_get, slice_set, slice_index_or, vec_capacity, subst, sym, ap, ◌∙◌, arith}
use Rattle.std.specs.List.{position_or_len}
use Rattle.commit_core.specs.declared.outs.OutAt.{OutAt}
use Rattle.commit_core.specs.declared.standing.Standing.{Standing}
use Rattle.commit_core.specs.declared.standing.Standing.TheVariants.{Unclaimed, Out}
use Rattle.commit_core.specs.declared.taken.Taken.TheVariants.{Handed}
use Rattle.commit_core.specs.LedgerBook.{Book, is_unclaimed, taken_of}
use Rattle.commit_core.specs.LedgerIndex.{IsKept}
use Rattle.commit_core.proofs.Kept.{get_low, has_room, before_next, kept_taken, taken_is}
use Rattle.commit_core.proofs.ledger.Ledger.take.Goals as goal

pub push_reserved-requires : goal.push_reserved-requires
push_reserved-requires c =
    let l = c.self.inside in
    let here : slice_get l.pieces.items l.first ≡ Some c.in-Some.piece = ap (λ xs. slice_get xs l.first) (sym c.as_slice.ensures.value) ∙ sym c.piece_at.ensures ∙ c.in-Some.is in
    let low : l.first < length l.standings.items = omega (arith, get_low l.pieces.items l.first c.in-Some.piece here, c.self.invariant.count) in
    let room = has_room l.pieces.items l.standings.items l.outs.items l.given l.first l.done (vec_capacity l.outs) c.self.invariant low in
    omega (arith, room)

pub first_unclaimed-self-inside-requires-clause-before : goal.first_unclaimed-self-inside-requires-clause-before
first_unclaimed-self-inside-requires-clause-before c =
    let l = c.self.inside in
    let here : slice_get l.pieces.items l.first ≡ Some c.in-Some.piece = ap (λ xs. slice_get xs l.first) (sym c.as_slice.ensures.value) ∙ sym c.piece_at.ensures ∙ c.in-Some.is in
    let low : l.first < length l.standings.items = omega (arith, get_low l.pieces.items l.first c.in-Some.piece here, c.self.invariant.count) in
    subst (λ (xs : List Standing). (k : ℕ) → k < l.first + 1 → is_unclaimed (slice_index_or xs k Unclaimed) ≡ false) (sym c.as_slice-2.ensures.value)
    (before_next l.pieces.items l.standings.items l.outs.items l.given l.first l.done (vec_capacity l.outs) c.self.invariant low (l.given + 1))

pub invariant_of-self : goal.invariant_of-self
invariant_of-self c =
    let l = c.self.inside in
    let here : slice_get l.pieces.items l.first ≡ Some c.in-Some.piece = ap (λ xs. slice_get xs l.first) (sym c.as_slice.ensures.value) ∙ sym c.piece_at.ensures ∙ c.in-Some.is in
    let low : l.first < length l.standings.items = omega (arith, get_low l.pieces.items l.first c.in-Some.piece here, c.self.invariant.count) in
    let next = c.first_unclaimed-self-inside.result in
    let standings = slice_set l.standings.items l.first (Out (l.given + 1)) in
    let at : next ≡ position_or_len is_unclaimed standings = c.first_unclaimed-self-inside.ensures ∙ ap (position_or_len is_unclaimed) c.as_slice-2.ensures.value in
    subst (λ (xs : List OutAt). IsKept l.pieces.items standings xs (l.given + 1) next l.done (vec_capacity c.push_reserved.new.self)) (sym c.push_reserved.ensures.items)
    (subst (λ (room : ℕ). IsKept l.pieces.items standings (l.outs.items ++ record { number = l.given + 1; place = l.first } ∷ []) (l.given + 1) next l.done room)
    (sym c.push_reserved.ensures.capacity)
    (kept_taken l.pieces.items l.standings.items l.outs.items l.given l.first l.done (vec_capacity l.outs) c.self.invariant low next at))

pub returns-clause-answer : goal.returns-clause-answer
returns-clause-answer c =
    let l = c.self.inside in
    let here : slice_get l.pieces.items l.first ≡ Some c.in-Some.piece = ap (λ xs. slice_get xs l.first) (sym c.as_slice.ensures.value) ∙ sym c.piece_at.ensures ∙ c.in-Some.is in
    subst (λ (b : Book). Handed (l.given + 1) c.in-Some.piece ≡ taken_of b) c.self.view_is
    (taken_is (record { pieces = l.pieces.items; standings = l.standings.items; given = l.given }) l.first c.in-Some.piece c.self.invariant.count c.self.invariant.at_first here
    (omega (arith, c.if-self.false)))
