-- What each move leaves of the ranks' order.
use Rattle.std.proofs.Common.{◌≡◌, ◌⊎◌, inl, inr, ℕ, zero, suc, ◌+◌, ◌-◌, ◌≤◌, Bool, true, false, List, [], ◌∷◌, map, replicate, Option, Some, None, IfSome, refl, sym, ap, subst, slice_get, arith}
use Rattle.std.specs.Prelude.{slice_set, nat_lt, IsSomeAnd, if◌then◌else◌}
use Rattle.std.specs.List.{list_any}
use Rattle.scr_base.specs.Calls.{is_end, is_local}
use Rattle.scr_base.specs.declared.answers.Reply.{Reply}
use Rattle.scr_base.specs.declared.content.Step.{Step}
use Rattle.scr_base.specs.declared.content.Step.TheVariants as step
use Rattle.round_core.specs.declared.seat.Doing.TheVariants as doing
use Rattle.round_core.specs.declared.seat.Seat.{Seat}
use Rattle.round_core.specs.Seats.{fresh_seat, next_number, called, owed, freed}
use Rattle.site_state.specs.declared.run_state.RunState.{RunState}
use Rattle.site_state.specs.declared.run_state.RunStage.TheVariants as stage
use Rattle.site_state.specs.Asking.{program_of, lengthened}
use Rattle.site_state.specs.Shown.{mends}
use Rattle.site_state.specs.Cores.{recovered, next_drop_core}
use Rattle.site_state.specs.Steps.{IsNextCall}
use Rattle.site_state.specs.Order.{SeatInOrder, IsInOrder}
use Rattle.site_state.proofs.Lengthened.{still_there}
use Rattle.site_state.proofs.Serving.{some_same}

-- ## Seats

set_at : (seats : List Seat) (k i : ℕ) (new x : Seat) → slice_get (slice_set seats k new) i ≡ Some x → ((i ≡ k) × (new ≡ x)) ⊎ (slice_get seats i ≡ Some x)
set_at [] k i new x at = absurd (cc at)
set_at (s ∷ seats) zero zero new x at = inl (refl, some_same new x at)
set_at (s ∷ seats) zero (suc i) new x at = inr at
set_at (s ∷ seats) (suc k) zero new x at = inr at
set_at (s ∷ seats) (suc k) (suc i) new x at = pick (set_at seats k i new x at) where
  pick : ((i ≡ k) × (new ≡ x)) ⊎ (slice_get seats i ≡ Some x) → ((suc i ≡ suc k) × (new ≡ x)) ⊎ (slice_get seats i ≡ Some x)
  pick (inl h) = inl (ap suc h.0, h.1)
  pick (inr h) = inr h

-- one rank's seat is another that is in order
pub seat_order : (programs : List (List Step)) (seats : List Seat) (rank : ℕ) (new : Seat) → SeatInOrder (program_of programs rank) new → IsInOrder programs seats → IsInOrder programs (slice_set seats rank new)
seat_order programs seats rank new one order = λ i x at. pick i x (set_at seats rank i new x at) where
  pick : (i : ℕ) (x : Seat) → ((i ≡ rank) × (new ≡ x)) ⊎ (slice_get seats i ≡ Some x) → SeatInOrder (program_of programs i) x
  pick i x (inl h) = subst (λ (n : ℕ). SeatInOrder (program_of programs n) x) (sym h.0) (subst (λ (y : Seat). SeatInOrder (program_of programs rank) y) h.1 one)
  pick i x (inr at) = order i x at

mapped_at : (f : Seat → Seat) (seats : List Seat) (i : ℕ) (x : Seat) → slice_get (map f seats) i ≡ Some x → (s : Seat) × (slice_get seats i ≡ Some s) × (f s ≡ x)
mapped_at f [] i x at = absurd (cc at)
mapped_at f (s ∷ seats) zero x at = (s, refl, some_same (f s) x at)
mapped_at f (s ∷ seats) (suc i) x at = mapped_at f seats i x at

-- a round is decided
pub owed_order : (programs : List (List Step)) (seats : List Seat) (a : Reply) → IsInOrder programs seats → IsInOrder programs (map (owed a) seats)
owed_order programs seats a order = λ i x at.
    let s = mapped_at (owed a) seats i x at in
    subst (λ (y : Seat). SeatInOrder (program_of programs i) y) s.2 (order i s.0 s.1)

-- a rank takes its reply
pub freed_order : (programs : List (List Step)) (seats ranks : List Seat) (rank : ℕ) (a : Reply) → IsSomeAnd (slice_get seats rank) (λ (x : Seat). (x.doing ≡ doing.Owed a) × (ranks ≡ slice_set seats rank (freed x)))
    → IsInOrder programs seats → IsInOrder programs ranks
freed_order programs seats ranks rank a owes order = pick (slice_get seats rank) refl owes where
  pick : (o : Option Seat) → slice_get seats rank ≡ o → IsSomeAnd o (λ (x : Seat). (x.doing ≡ doing.Owed a) × (ranks ≡ slice_set seats rank (freed x))) → IsInOrder programs ranks
  pick None is h = absurd h
  pick (Some seat) is h = subst (λ (rs : List Seat). IsInOrder programs rs) (sym h.1) (seat_order programs seats rank (freed seat) (order rank seat is) order)

-- a rank calls
pub called_order : (programs : List (List Step)) (c : RunState) (ranks : List Seat) (rank : ℕ) (s : Step) → IsNextCall programs c rank s → IfSome (slice_get c.ranks rank) (λ (x : Seat). ranks ≡ slice_set c.ranks rank (called s x))
    → IsInOrder programs c.ranks → IsInOrder programs ranks
called_order programs c ranks rank s next arrived order =
    let h : ranks ≡ slice_set c.ranks rank (called s next.seat) = subst (λ (o : Option Seat). IfSome o (λ (x : Seat). ranks ≡ slice_set c.ranks rank (called s x))) next.is arrived in
    subst (λ (rs : List Seat). IsInOrder programs rs) (sym h) (seat_order programs c.ranks rank (called s next.seat) (inr (some next.seat.ended refl (order rank next.seat next.is), (s, next.of_program, refl))) order) where
      some : (b : Bool) → next.seat.ended ≡ b → SeatInOrder (program_of programs rank) next.seat → 1 ≤ next_number next.seat
      some true e (inl new) = absurd (cc (e, new.1))
      some true e (inr taken) = subst (λ (b : Bool). 1 ≤ (if b then next.seat.number else next.seat.number + 1)) (sym e) taken.0
      some false e h = subst (λ (b : Bool). 1 ≤ (if b then next.seat.number else next.seat.number + 1)) (sym e) (omega arith)

pub no_end : (s : Step) → is_local s ≡ true → is_end s ≡ false
no_end step.End e = absurd (cc e)
no_end _ e = refl

-- ranks that have taken no step
pub fresh_order : (programs : List (List Step)) (n : ℕ) (seats : List Seat) → seats ≡ replicate n fresh_seat → IsInOrder programs seats
fresh_order programs n seats is = subst (λ (rs : List Seat). IsInOrder programs rs) (sym is) (λ i x at. subst (λ (y : Seat). SeatInOrder (program_of programs i) y) (fresh n i x at) (inl (refl, refl))) where
  fresh : (n i : ℕ) (x : Seat) → slice_get (replicate n fresh_seat) i ≡ Some x → fresh_seat ≡ x
  fresh zero i x at = absurd (cc at)
  fresh (suc n) zero x at = some_same fresh_seat x at
  fresh (suc n) (suc i) x at = fresh n i x at

-- a program is longer
pub lengthened_order : (programs : List (List Step)) (rank : ℕ) (s : Step) (seats : List Seat) → IsInOrder programs seats → IsInOrder (lengthened programs rank s) seats
lengthened_order programs rank s seats order = λ i x at. pick i x (order i x at) where
  pick : (i : ℕ) (x : Seat) → SeatInOrder (program_of programs i) x → SeatInOrder (program_of (lengthened programs rank s) i) x
  pick i x (inl new) = inl new
  pick i x (inr taken) = inr (taken.0, (taken.1.0, still_there programs rank s i (x.number - 1) taken.1.0 taken.1.1, taken.1.2))

-- ## Memories with the same ranks

pub recovered_ranks : (c : RunState) → (recovered c).ranks ≡ c.ranks
recovered_ranks c = pick (list_any mends c.kept) where
  pick : (b : Bool) → (let d : RunState = if b then c else record c { stage = stage.Serving } in d).ranks ≡ c.ranks
  pick true = refl
  pick false = refl

pub dropped_ranks : (c : RunState) (node : ℕ) → (let d : RunState = if nat_lt node (c.shape.nodes - 1) then next_drop_core c (node + 1) else record c { stage = stage.Dropped } in d).ranks ≡ c.ranks
dropped_ranks c node = pick (nat_lt node (c.shape.nodes - 1)) where
  pick : (b : Bool) → (let d : RunState = if b then next_drop_core c (node + 1) else record c { stage = stage.Dropped } in d).ranks ≡ c.ranks
  pick true = refl
  pick false = refl
