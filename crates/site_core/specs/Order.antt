-- What the ranks of a run have done of their programs, and that somebody's turn moves.
use Rattle.site_core.specs.declared.site.Site.{Site}
use Rattle.site_state.specs.Order.{IsInOrder}

-- where the ranks were in order, they are
abbrev pub KeepsOrder : {D : Type 0} → Site D → Site D → Type 0
KeepsOrder old new = IsInOrder old.programs old.core.ranks → IsInOrder new.programs new.core.ranks
