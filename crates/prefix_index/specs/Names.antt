-- The names of index records.
use Rattle.std.specs.Prelude.{ℕ, List, ◌∷◌, ◌++◌, codes, decimal}
use Rattle.scr_base.specs.declared.shape.DataId.{DataId}

-- x.ID.RUN
abbrev pub entry_name : DataId → List ℕ
entry_name which = codes "x." ++ decimal which.id ++ 46 ∷ decimal which.run
