-- What each move leaves of the ranks' order.
use Rattle.std.proofs.Common.{◌≡◌, inr, ℕ, List, Some, sym, ap, ◌∙◌, subst, slice_get, arith}
use Rattle.std.specs.Prelude.{slice_set}
use Rattle.scr_base.specs.declared.content.Step.{Step}
use Rattle.round_core.specs.declared.seat.Seat.{Seat}
use Rattle.round_core.specs.Seats.{stepped}
use Rattle.site_state.specs.declared.run_state.RunState.{RunState}
use Rattle.site_core.specs.declared.site.Site.{Site}
use Rattle.site_state.specs.Steps.{IsNextLocal}
use Rattle.site_state.specs.Order.{IsInOrder}
use Rattle.site_core.specs.Order.{KeepsOrder}
use Rattle.site_state.proofs.InOrder.{seat_order, no_end}

-- a rank takes a step of its own
pub stepped_order : {D : Type 0} (old new : Site D) (mid : RunState) (rank : ℕ) (s : Step) (next : IsNextLocal old.programs old.core rank s) → mid.ranks ≡ old.core.ranks → new.programs ≡ old.programs
    → ((seat : Seat) → slice_get mid.ranks rank ≡ Some seat → new.core ≡ record mid { ranks = slice_set mid.ranks rank (stepped seat) }) → KeepsOrder old new
stepped_order old new mid rank s next ranks programs stepped_on order =
    let is : new.core ≡ record mid { ranks = slice_set mid.ranks rank (stepped next.seat) } = stepped_on next.seat (ap (λ (rs : List Seat). slice_get rs rank) ranks ∙ next.is) in
    let same : new.core.ranks ≡ slice_set old.core.ranks rank (stepped next.seat) = ap (λ (x : RunState). x.ranks) is ∙ ap (λ (rs : List Seat). slice_set rs rank (stepped next.seat)) ranks in
    subst (λ (ps : List (List Step)). IsInOrder ps new.core.ranks) (sym programs)
    (subst (λ (rs : List Seat). IsInOrder old.programs rs) (sym same)
    (seat_order old.programs old.core.ranks rank (stepped next.seat) (inr (omega arith, (s, next.of_program, no_end s next.local ∙ sym next.goes))) order))

pub same_order : {D : Type 0} (old new : Site D) → new.core.ranks ≡ old.core.ranks → new.programs ≡ old.programs → KeepsOrder old new
same_order old new ranks programs order = subst (λ (ps : List (List Step)). IsInOrder ps new.core.ranks) (sym programs) (subst (λ (rs : List Seat). IsInOrder old.programs rs) (sym ranks) order)
