-- What the turns of a run do to what is ahead of it.
use Rattle.std.specs.Prelude.{◌≡◌, ◌⊎◌, ◌<◌, ℕ}
use Rattle.site_state.specs.Ahead.{ahead}
use Rattle.site_core.specs.declared.site.Site.{Site}

-- no move was counted and as much is ahead, or less is
abbrev pub FallsOrRests : (moves before : ℕ) → (moves' after : ℕ) → Type 0
FallsOrRests moves before moves' after = ((moves' ≡ moves) × (after ≡ before)) ⊎ (after < before)

abbrev pub GoesDown : {D : Type 0} → Site D → Site D → Type 0
GoesDown old new = FallsOrRests old.moves (ahead old.core old.programs) new.moves (ahead new.core new.programs)
