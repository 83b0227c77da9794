-- The rule of the board's one word, and what each step on it tells.
use Rattle.std.specs.Prelude.{◌≡◌, ◌⊎◌, ℕ, List, [], ◌∷◌, ◌++◌, length, slice_index}
use mathlib.Core.List.{IsPrefix}
use mathlib.Core.Option.{some}
use lib.ListN.{get_elem?}
use Rattle.atomic_table.specs.Table.{State, Me, Step}
use Rattle.status_board.specs.declared.status.Status.{Status}
use Rattle.status_board.specs.declared.rule.View.{View}
use Rattle.status_board.specs.Statuses.{nothing_yet, status_of, EndsWith}

-- a seat that has seen these statuses
abbrev pub sees : List Status → View
sees seen = record { seen = seen; also = [] }

-- what the one has seen, beside what the other has
abbrev pub together : View → View → View
together v w = record { seen = v.seen; also = w.seen }

-- the seat has seen a beginning of the list
pub record IsOf (published : List Status) (v : View) : Type 0 where
  pub seen : IsPrefix v.seen published
  pub also : IsPrefix v.also published

abbrev pub AreOf : List Status → List View → Type 0
AreOf published views = (seat : ℕ) (v : View) → get_elem? views seat ≡ some v → IsOf published v

-- the statuses that were published are one list, which the word ends and of which each seat has seen a beginning
pub record IsPublished (s : State (Unit {0}) View) : Type 0 where
  pub published : List Status
  pub begins : IsPrefix (nothing_yet ∷ []) published
  pub one_word : length s.words ≡ 1
  pub ends : EndsWith published (status_of (slice_index s.words 0))
  pub seats : AreOf published s.views

abbrev Sat : Type 0
Sat = Me (Unit {0}) View

-- the word's status stands behind all that were published, and the seat has seen them
pub record appends (s : Step (Unit {0})) (me : Sat) (found : ℕ) (after : Sat) : Type 0 where
  pub between : List Status
  pub view : after.0 ≡ sees ((me.0.seen ++ between) ++ status_of s.first ∷ [])
  pub begins : IsPrefix (nothing_yet ∷ []) after.0.seen
  pub slots : after.1 ≡ me.1

-- the seat has seen all statuses up to the one that it found
pub record looks (s : Step (Unit {0})) (me : Sat) (found : ℕ) (after : Sat) : Type 0 where
  pub onward : IsPrefix me.0.seen after.0.seen
  pub ends : EndsWith after.0.seen (status_of found)
  pub begins : IsPrefix (nothing_yet ∷ []) after.0.seen
  pub alone : after.0.also ≡ []
  pub slots : after.1 ≡ me.1

-- the longer of two beginnings, which the other begins
pub record settles (s : Step (Unit {0})) (me : Sat) (found : ℕ) (after : Sat) : Type 0 where
  pub either : (after.0.seen ≡ me.0.seen) ⊎ (after.0.seen ≡ me.0.also)
  pub seen : IsPrefix me.0.seen after.0.seen
  pub also : IsPrefix me.0.also after.0.seen
  pub alone : after.0.also ≡ []
  pub slots : after.1 ≡ me.1
