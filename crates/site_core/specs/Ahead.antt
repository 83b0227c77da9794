-- How much a run has ahead of it, at most: a number that each turn that moves lowers, over whatever devices.
use Rattle.site_core.specs.declared.site.Site.{Site}
use Rattle.site_state.specs.declared.turn.Turn.{Turn}
use Rattle.site_state.specs.Ahead.{ahead, Falls}

-- a turn that moved lowers what is ahead
abbrev pub Lowers : {D : Type 0} → Turn → Site D → Site D → Type 0
Lowers turn old new = Falls turn (ahead old.core old.programs) (ahead new.core new.programs)
