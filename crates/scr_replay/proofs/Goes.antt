-- Turns, one after another, leave less ahead of a run, or leave it as it was.
use Rattle.std.proofs.Common.{inl, inr, ℕ, ap, ◌∙◌, refl, arith}
use Rattle.site_state.specs.Ahead.{ahead}
use Rattle.site_core.specs.Ahead.{Lowers}
use Rattle.site_core.specs.Follows.{Stays}
use Rattle.site_core.specs.declared.site.Site.{Site}
use Rattle.site_state.specs.declared.turn.Turn.{Turn}
use Rattle.site_state.specs.declared.turn.Turn.TheVariants as turn
use Rattle.scr_replay.specs.Goes.{FallsOrRests, GoesDown}

pub turn_goes : {D : Type 0} (t : Turn) (old new : Site D) → Lowers t old new → Stays t old new → GoesDown old new
turn_goes turn.Moved old new lt same = inr lt
turn_goes {D} (turn.NotYet why) old new lt same = inl (ap (λ (s : Site D). s.moves) same, ap (λ (s : Site D). ahead s.core s.programs) same)
turn_goes {D} turn.Ended old new lt same = inl (ap (λ (s : Site D). s.moves) same, ap (λ (s : Site D). ahead s.core s.programs) same)

goes_then : (m a n b k d : ℕ) → FallsOrRests m a n b → FallsOrRests n b k d → FallsOrRests m a k d
goes_then m a n b k d (inl one) (inl two) = inl (two.0 ∙ one.0, two.1 ∙ one.1)
goes_then m a n b k d (inl one) (inr lt) = inr (omega (arith, one, lt))
goes_then m a n b k d (inr lt) (inl two) = inr (omega (arith, two, lt))
goes_then m a n b k d (inr lt) (inr more) = inr (omega (arith, lt, more))

-- some turns after others
pub goes_on : {D : Type 0} (old mid new : Site D) → GoesDown old mid → GoesDown mid new → GoesDown old new
goes_on old mid new one two = goes_then old.moves (ahead old.core old.programs) mid.moves (ahead mid.core mid.programs) new.moves (ahead new.core new.programs) one two

-- none
pub rests : {D : Type 0} (site : Site D) → GoesDown site site
rests site = inl (refl, refl)
