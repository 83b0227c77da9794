-- Parts of a line that are taken one by one.
use Rattle.std.specs.Prelude.{ℕ, Bool, List, [], ◌∷◌, ◌++◌, if◌then◌else◌, codes}
use Rattle.std.specs.List.{flat_map}

-- the texts of a list, each with a byte before it
abbrev pub each_after : {X : Type 0} → ℕ → (X → List ℕ) → List X → List ℕ
each_after separator text xs = flat_map (λ x. separator ∷ text x) xs

-- the texts of a list, each with a byte behind it
abbrev pub each_before : {X : Type 0} → ℕ → (X → List ℕ) → List X → List ℕ
each_before separator text xs = flat_map (λ x. text x ++ separator ∷ []) xs

-- a star for the marked entry
abbrev pub mark_text : Bool → List ℕ
mark_text marked = if marked then codes "*" else []
